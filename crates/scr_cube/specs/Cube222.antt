-- A 2x2x2 as its corners, its turns (WCA Regulations, article 12), and its number.
--
-- The corner DBL stands still, so turns are of U, R and F. Places and pieces are numbered 0 URF, 1 UFL, 2 ULB, 3 UBR,
-- 4 DFR, 5 DLF, 6 DRB. A corner's twist is how many thirds clockwise its U or D sticker stands from the U or D side.
use Rattle.std.specs.Prelude.{ℕ, List, [], ◌∷◌, slice_index}
use Rattle.scr_combinatorics.specs.Permutations.{permutation_number, permutation_at}
use Rattle.scr_combinatorics.specs.Twists.{twists_number, twists_at}
use Rattle.scr_combinatorics.specs.Numbered.{Numbers, numbers_by_digits, Numbered, numbered_by_digits}
use Rattle.scr_orbit.specs.Orbits.{Orbit, IsZeroSumOrbit, zeros, solved_orbit, orbit_monoid}
use Rattle.scr_orbit.specs.PowerPuzzles.{PowerPuzzle}
use Rattle.scr_notation.specs.declared.turn.Turn.{Turn}
use Rattle.scr_notation.specs.FaceLetters.{letters_of_faces}

-- Seven corners that can be put together without taking the cube apart: twists sum to 0 modulo 3.
abbrev pub IsCorners222 : Orbit → Type 0
IsCorners222 = IsZeroSumOrbit 7 3

-- The quarter turns of U, R and F: which place's corner comes to each place, and the twist added.
abbrev pub quarters_222 : List Orbit
quarters_222 =
    record { pieces = 3 ∷ 0 ∷ 1 ∷ 2 ∷ 4 ∷ 5 ∷ 6 ∷ []; digits = zeros 7 }
    ∷ record { pieces = 4 ∷ 1 ∷ 2 ∷ 0 ∷ 6 ∷ 5 ∷ 3 ∷ []; digits = 2 ∷ 0 ∷ 0 ∷ 1 ∷ 1 ∷ 0 ∷ 2 ∷ [] }
    ∷ record { pieces = 1 ∷ 5 ∷ 2 ∷ 3 ∷ 0 ∷ 4 ∷ 6 ∷ []; digits = 1 ∷ 2 ∷ 0 ∷ 0 ∷ 2 ∷ 1 ∷ 0 ∷ [] }
    ∷ []

abbrev pub solved_222 : Orbit
solved_222 = solved_orbit 7

-- The 2x2x2 as data. Its 9 turns are U U2 U' R R2 R' F F2 F', in the order of their numbers.
abbrev pub powers_222 : PowerPuzzle Orbit Turn
powers_222 = record { letters = letters_of_faces; monoid = orbit_monoid 7 3; generators = quarters_222 }

-- ---- numbers

-- The numbers of the twists and of the list of corners.
unfoldable pub digits_222 : Orbit → List ℕ
digits_222 c = twists_number 3 c.digits ∷ permutation_number c.pieces ∷ []

-- The numbered states, 3,674,160 of them, for there are 729 lists of twists and 5,040 of corners: the number of the
-- twists is the least digit.
abbrev pub numbers_222 : Numbers Orbit
numbers_222 = numbers_by_digits (729 ∷ 5040 ∷ []) digits_222 IsCorners222

-- The state with these two numbers.
unfoldable pub corners_of_digits : List ℕ → Orbit
corners_of_digits ds =
    record { pieces = permutation_at 7 (slice_index ds 1); digits = twists_at 7 3 (slice_index ds 0) }

-- and with the state of each number
abbrev pub numbered_222 : Numbered Orbit
numbered_222 = numbered_by_digits (729 ∷ 5040 ∷ []) corners_of_digits digits_222 IsCorners222
