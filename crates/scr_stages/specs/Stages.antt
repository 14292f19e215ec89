-- The four stages by which a 3x3x3 is solved (after Thistlethwaite), and the scramble that they give.
use Rattle.std.specs.Prelude.{◌≡◌, ℕ, List, [], ◌∷◌, length, Some}
use Rattle.scr_combinatorics.specs.Play.{play}
use Rattle.scr_combinatorics.specs.Stages.{Stage, IsScrambleByStages}
use Rattle.scr_orbit.specs.Orbits.{zeros}
use Rattle.scr_orbit.specs.PowerPuzzles.{after_letter}
use Rattle.scr_notation.specs.declared.turn.Turn.{Turn}
use Rattle.scr_notation.specs.Turning.{opposite, turn_merging}
use Rattle.scr_coord.specs.Projections.{marked_places, stands_in}
use Rattle.scr_cube.specs.Cube333.{CubeState, cube_powers, solved_cube}
use Rattle.scr_cube.specs.ListedTurns.{turn_numbers, letter_in, after_of}

-- The stage of some turns, of a goal and of a bound.
abbrev pub cube_stage : List ℕ → (CubeState → Type 0) → ℕ → Stage CubeState Turn
cube_stage turns IsGoal bound =
    record { letters = length turns; letter = letter_in turns; IsGoal = IsGoal; bound = bound }

-- ---- the four stages

-- First, by all turns: no edge is flipped.
abbrev pub HasNoFlips : CubeState → Type 0
HasNoFlips c = c.edges.digits ≡ zeros 12

-- the edges of the middle layer: FR FL BL BR
abbrev pub middle_edges : List ℕ
middle_edges = 8 ∷ 9 ∷ 10 ∷ 11 ∷ []

-- no corner is twisted
abbrev pub IsUntwisted : CubeState → Type 0
IsUntwisted c = c.corners.digits ≡ zeros 8

-- the edges of the middle layer are in it
abbrev pub IsInMiddle : CubeState → Type 0
IsInMiddle c = marked_places (stands_in middle_edges) c.edges.pieces ≡ middle_edges

-- Second, by all turns but quarter turns of F and B: besides, no corner is twisted, and the edges of the middle layer
-- are in it. A cube that turns of U and D and half turns of the other faces solve is called a domino.
pub record IsDomino (c : CubeState) : Type 0 where
  pub no_flips : HasNoFlips c
  pub no_twists : IsUntwisted c
  pub middle : IsInMiddle c

abbrev pub half_turns : List ℕ
half_turns = 1 ∷ 4 ∷ 7 ∷ 10 ∷ 13 ∷ 16 ∷ []

-- Third, by all turns of U and D, and half turns of the others: some word of half turns brings solved to this cube.
abbrev pub IsHalfTurned : CubeState → Type 0
IsHalfTurned c = (word : List ℕ) × (play (after_of half_turns) solved_cube word ≡ Some c)

-- the turns of the second and the third, of which the last keep a domino
abbrev pub slice_turns : List ℕ
slice_turns = 0 ∷ 1 ∷ 2 ∷ 3 ∷ 4 ∷ 5 ∷ 7 ∷ 9 ∷ 10 ∷ 11 ∷ 12 ∷ 13 ∷ 14 ∷ 16 ∷ []

abbrev pub domino_turns : List ℕ
domino_turns = 0 ∷ 1 ∷ 2 ∷ 4 ∷ 7 ∷ 9 ∷ 10 ∷ 11 ∷ 13 ∷ 16 ∷ []

abbrev pub flips_stage : Stage CubeState Turn
flips_stage = cube_stage turn_numbers HasNoFlips 7

abbrev pub slice_stage : Stage CubeState Turn
slice_stage = cube_stage slice_turns IsDomino 13

abbrev pub tetrads_stage : Stage CubeState Turn
tetrads_stage = cube_stage domino_turns IsHalfTurned 15

-- Last, by half turns: solved.
abbrev pub halves_stage : Stage CubeState Turn
halves_stage = cube_stage half_turns (λ c. c ≡ solved_cube) 17

abbrev pub stages : List (Stage CubeState Turn)
stages = flips_stage ∷ slice_stage ∷ tetrads_stage ∷ halves_stage ∷ []

-- ---- the scramble

-- The scramble of a cube by stages: the words of the four stages, tidied and taken back.
abbrev pub IsStageScramble : CubeState → List Turn → Type 0
IsStageScramble = IsScrambleByStages (after_letter cube_powers) opposite turn_merging stages
