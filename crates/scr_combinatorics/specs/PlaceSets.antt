-- Sets of places, as increasing lists, and their numbers.
use Rattle.std.specs.Prelude.{◌≡◌, ℕ, zero, suc, ◌+◌, ◌-◌, ◌<◌, ◌≤◌, List, [], ◌∷◌, length, if◌then◌else◌, ◌==◌, nat_lt}

-- n over k, how many sets of k of n places there are: those with the first place and those without it
abbrev pub binomial : ℕ → ℕ → ℕ
binomial n zero = 1
binomial zero (suc k) = 0
binomial (suc n) (suc k) = binomial n k + binomial n (suc k)

-- an increasing list of places from `low` on, all below n
abbrev pub IsPlaceSetFrom : ℕ → ℕ → List ℕ → Type 0
IsPlaceSetFrom low n [] = Unit {0}
IsPlaceSetFrom low n (x ∷ xs) = (low ≤ x) × (x < n) × IsPlaceSetFrom (suc x) n xs

-- a set of k of n places, as an increasing list
pub record IsPlaceSet (n k : ℕ) (xs : List ℕ) : Type 0 where
  pub size : length xs ≡ k
  pub increasing : IsPlaceSetFrom 0 n xs

-- the number of an increasing list among those of its length over `count` places from `low` on,
-- in dictionary order from 0: those that have the lowest place come before those that lack it
abbrev pub place_set_number_from : ℕ → ℕ → List ℕ → ℕ
place_set_number_from low zero xs = 0
place_set_number_from low (suc count) [] = 0
place_set_number_from low (suc count) (x ∷ xs) =
    if x == low
    then place_set_number_from (suc low) count xs
    else binomial count (length xs) + place_set_number_from (suc low) count (x ∷ xs)

-- the number of a set of places among n places
abbrev pub place_set_number : ℕ → List ℕ → ℕ
place_set_number n xs = place_set_number_from 0 n xs

-- the increasing list of k of `count` places from `low` on that has number r
abbrev pub place_set_from : ℕ → ℕ → ℕ → ℕ → List ℕ
place_set_from low zero k r = []
place_set_from low (suc count) zero r = []
place_set_from low (suc count) (suc k) r =
    if nat_lt r (binomial count k)
    then low ∷ place_set_from (suc low) count k r
    else place_set_from (suc low) count (suc k) (r - binomial count k)

-- the set of k of n places that has number r
unfoldable pub place_set_at : ℕ → ℕ → ℕ → List ℕ
place_set_at n k r = place_set_from 0 n k r
