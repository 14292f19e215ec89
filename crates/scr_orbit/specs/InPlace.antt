-- Pieces that stay at their places and turn there, as the tips of a Pyraminx: each has a digit modulo some number.
use Rattle.std.specs.Prelude.{◌≡◌, ℕ, ◌<◌, List, All, length}
use Rattle.scr_orbit.specs.Monoids.{Monoid}
use Rattle.scr_orbit.specs.Orbits.{added_digits, zeros}

-- n digits below `modulus`
pub record AreDigitsInPlace (n modulus : ℕ) (ds : List ℕ) : Type 0 where
  pub size : length ds ≡ n
  pub below : All (λ d. d < modulus) ds

-- A turn adds to each digit.
abbrev pub in_place_monoid : ℕ → ℕ → Monoid (List ℕ)
in_place_monoid n modulus = record { turned = added_digits modulus; solved = zeros n }
