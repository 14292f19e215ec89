-- The numbers of cubes: one for each.
use Rattle.std.proofs.Common.{◌≡◌, ℕ, ◌<◌, List, [], ◌∷◌, subst, lit≤, lit<, arith}
use Rattle.std.proofs.lemmas.Nat.{mod_below}
use Rattle.scr_combinatorics.specs.Permutations.{parity, factorial, permutation_number, permutation_at}
use Rattle.scr_combinatorics.specs.Digits.{AreDigits}
use Rattle.scr_combinatorics.specs.Numbering.{IsNumbering}
use Rattle.scr_combinatorics.proofs.PermutationNumbers.{permutation_number-lt, IsPermutation-at, permutation_number-at, permutation_at-number}
use Rattle.scr_combinatorics.proofs.Halves.{half_lt, IsHalf-half_at, half_at-number}
use Rattle.scr_combinatorics.proofs.Twists.{twists_number-lt, IsTwists-twists_at, twists_number-twists_at, twists_at-number}
use Rattle.scr_combinatorics.proofs.Digits.{by_four_digits}
use Rattle.scr_combinatorics.proofs.Numberings.{GivesState, numbering_by_digits}
use Rattle.scr_orbit.proofs.OrbitLaws.{same_orbit}
use Rattle.scr_cube.specs.Cube333.{CubeState, IsCube, cube_digits, cube_of_digits, cube_numbered}

abbrev pub cube_bases : List ℕ
cube_bases = 2048 ∷ 2187 ∷ 40320 ∷ 239500800 ∷ []

-- four numbers below their counts give a cube
abbrev Gives : List ℕ → Type 0
Gives = GivesState cube_bases cube_of_digits cube_digits IsCube

cube_of_four : (f t p e : ℕ) → f < 2048 → t < 2187 → p < 40320 → e < 239500800 → Gives (f ∷ t ∷ p ∷ e ∷ [])
unfolding cube_of_digits cube_digits
cube_of_four f t p e lf lt lp le =
    grind (
      arith,
      IsHalf-half_at 12 (parity (permutation_at 8 p)) e le (mod_below _ 2 (lit< tt)),
      twists_number-twists_at 12 2 f (lit< tt) lf,
      twists_number-twists_at 8 3 t (lit< tt) lt,
      permutation_number-at 8 p lp,
      IsPermutation-at 8 p lp,
      IsTwists-twists_at 8 3 t (lit< tt) (lit< tt),
      IsTwists-twists_at 12 2 f (lit< tt) (lit< tt),
    )

-- the four numbers of a cube are below their counts
pub AreDigits-cube : (c : CubeState) → IsCube c → AreDigits cube_bases (cube_digits c)
unfolding cube_digits
AreDigits-cube c h = (
  twists_number-lt 12 2 c.edges.digits h.edges.digits,
  (
    twists_number-lt 8 3 c.corners.digits h.corners.digits,
    (
      subst (λ n. permutation_number c.corners.pieces < factorial n) h.corners.pieces.size (permutation_number-lt c.corners.pieces),
      (half_lt 12 c.edges.pieces (lit≤ tt) h.edges.pieces, tt),
    ),
  ),
)

-- and tell it
cube_of_digits-digits : (c : CubeState) → IsCube c → cube_of_digits (cube_digits c) ≡ c
unfolding cube_digits cube_of_digits
cube_of_digits-digits c h = grind (arith, twists_at-number, permutation_at-number, half_at-number, same_orbit)

-- cubes are numbered by the numbers below the count, one for each
pub cube_numbering : IsNumbering cube_numbered
cube_numbering =
    numbering_by_digits cube_bases cube_of_digits cube_digits IsCube (lit≤ tt) (lit≤ tt) (by_four_digits Gives 2048 2187 40320 239500800 cube_of_four)
    (λ c h. record { below = AreDigits-cube c h; again = cube_of_digits-digits c h })
