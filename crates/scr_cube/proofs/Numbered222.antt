-- The numbers of 2x2x2 states: one for each.
use Rattle.std.proofs.Common.{ℕ, ◌<◌, List, [], ◌∷◌, subst, lit≤, lit<, arith}
use Rattle.scr_combinatorics.specs.Permutations.{factorial, permutation_number}
use Rattle.scr_combinatorics.specs.Numbering.{IsNumbering}
use Rattle.scr_combinatorics.proofs.PermutationNumbers.{permutation_number-lt, IsPermutation-at, permutation_number-at, permutation_at-number}
use Rattle.scr_combinatorics.proofs.Twists.{twists_number-lt, IsTwists-twists_at, twists_number-twists_at, twists_at-number}
use Rattle.scr_combinatorics.proofs.Digits.{by_two_digits}
use Rattle.scr_combinatorics.proofs.Numberings.{GivesState, HasDigits, numbering_by_digits}
use Rattle.scr_orbit.specs.Orbits.{Orbit}
use Rattle.scr_orbit.proofs.OrbitLaws.{same_orbit}
use Rattle.scr_cube.specs.Cube222.{IsCorners222, digits_222, corners_of_digits, numbered_222}

abbrev pub bases_222 : List ℕ
bases_222 = 729 ∷ 5040 ∷ []

-- two numbers below their counts give a state
abbrev Gives : List ℕ → Type 0
Gives = GivesState bases_222 corners_of_digits digits_222 IsCorners222

state_of_two : (t p : ℕ) → t < 729 → p < 5040 → Gives (t ∷ p ∷ [])
unfolding corners_of_digits digits_222
state_of_two t p lt lp =
    let twists = twists_number-twists_at 7 3 t (lit< tt) lt in
    let pieces = permutation_number-at 7 p lp in
    grind (arith, pieces, IsPermutation-at 7 p lp, IsTwists-twists_at 7 3 t (lit< tt) (lit< tt), twists)

-- and a state has them
has_two : (c : Orbit) → IsCorners222 c → HasDigits bases_222 corners_of_digits digits_222 IsCorners222 c
unfolding digits_222 corners_of_digits
has_two c h = record {
  below = (
    twists_number-lt 7 3 c.digits h.digits,
    (subst (λ n. permutation_number c.pieces < factorial n) h.pieces.size (permutation_number-lt c.pieces), tt),
  );
  again = same_orbit _ _ (permutation_at-number 7 c.pieces h.pieces) (twists_at-number 7 3 c.digits (lit< tt) (lit< tt) h.digits);
}

-- states are numbered by the numbers below the count, one for each
pub numbering_222 : IsNumbering numbered_222
numbering_222 =
    numbering_by_digits bases_222 corners_of_digits digits_222 IsCorners222 (lit≤ tt) (lit≤ tt) (by_two_digits Gives 729 5040 state_of_two) has_two
