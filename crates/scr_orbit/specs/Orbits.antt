-- Orbits: pieces that change places among themselves, each with a digit modulo some number, as the twist of a corner or
-- the flip of an edge. No puzzle stands here. These are our own words for common notions.
use Rattle.std.specs.Prelude.{◌≡◌, ℕ, zero, suc, ◌+◌, ◌%◌, ◌<◌, List, [], ◌∷◌, All, length}
use Rattle.scr_combinatorics.specs.Lists.{numbers_from, pick}
use Rattle.scr_combinatorics.specs.Permutations.{IsPermutation}
use Rattle.scr_combinatorics.specs.Twists.{IsTwists}
use Rattle.scr_orbit.specs.Monoids.{Monoid}

-- Which piece stands at each place, and the digit of the piece that stands there. A turn is told by what it makes of
-- the solved orbit: from which place the piece comes to each place, and what is added to that piece's digit.
pub record Orbit : Type 0 where
  pub pieces : List ℕ
  pub digits : List ℕ

-- An orbit of n places with digits below `modulus`.
pub record IsOrbit (n modulus : ℕ) (o : Orbit) : Type 0 where
  pub pieces : IsPermutation n o.pieces
  pub size : length o.digits ≡ n
  pub below : All (λ d. d < modulus) o.digits

-- One whose digits sum to 0, as a turn that keeps the sum of digits: what puzzles hold whose digits are bound by
-- nothing else, as the twists of a cube's corners.
pub record IsZeroSumOrbit (n modulus : ℕ) (o : Orbit) : Type 0 where
  pub pieces : IsPermutation n o.pieces
  pub digits : IsTwists n modulus o.digits

-- Digits added place by place, modulo a number.
unfoldable pub added_digits : ℕ → List ℕ → List ℕ → List ℕ
added_digits modulus [] more = []
added_digits modulus (d ∷ digits) [] = []
added_digits modulus (d ∷ digits) (e ∷ more) = (d + e) % modulus ∷ added_digits modulus digits more

-- What a turn makes of an orbit.
unfoldable pub turned_orbit : ℕ → Orbit → Orbit → Orbit
turned_orbit modulus o r =
    record { pieces = pick o.pieces r.pieces; digits = added_digits modulus (pick o.digits r.pieces) r.digits }

-- n zeros
abbrev pub zeros : ℕ → List ℕ
zeros zero = []
zeros (suc n) = 0 ∷ zeros n

-- Each piece at its own place, with digit 0.
unfoldable pub solved_orbit : ℕ → Orbit
solved_orbit n = record { pieces = numbers_from 0 n; digits = zeros n }

-- The orbits of n places, and turns of them.
abbrev pub orbit_monoid : ℕ → ℕ → Monoid Orbit
orbit_monoid n modulus = record { turned = turned_orbit modulus; solved = solved_orbit n }
