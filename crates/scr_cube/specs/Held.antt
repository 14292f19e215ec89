-- A 3x3x3 as it is held, so that a scramble can end with the cube in any of 24 ways: where the centres stand, turns at
-- places, wide turns, holds and their words, and numbers. (WCA Regulations, article 12 for turns; which word a hold
-- has, and how held cubes are numbered, is our own choice.)
--
-- A turn is done at a place: up, right, front, down, left or back, U R F D L B, which are 0 to 5. A face is named by
-- its centre, that of a cube that is held as it was solved: the centres have the numbers of the places where they stand
-- then. Corners and edges are told as on a cube that is not held otherwise, by their places among the centres.
use Rattle.std.specs.Prelude.{ℕ, zero, suc, ◌+◌, ◌/◌, ◌%◌, ◌==◌, ◌<◌, if◌then◌else◌, List, [], ◌∷◌, ◌++◌, map, Contains, slice_index, slice_index_or, position, Option, None, unwrap_or}
use Rattle.std.specs.Option.{option_map, option_map_or}
use Rattle.std.specs.Str.{bytes_eq}
use Rattle.scr_combinatorics.specs.Lists.{numbers_from, pick}
use Rattle.scr_combinatorics.specs.Numbered.{Numbers, numbers_by_digits, Numbered, numbered_by_digits}
use Rattle.scr_combinatorics.specs.Play.{play}
use Rattle.scr_combinatorics.specs.Reach.{Puzzle}
use Rattle.scr_orbit.specs.PowerPuzzles.{after_letter}
use Rattle.scr_notation.specs.declared.event.Event.TheVariants.{Bf333}
use Rattle.scr_notation.specs.declared.turn.Turn.{Turn}
use Rattle.scr_notation.specs.declared.turn.Turn.TheVariants.{Face}
use Rattle.scr_notation.specs.Turns.{permits}
use Rattle.scr_cube.specs.Cube333.{CubeState, IsCube, solved_cube, cube_powers, cube_numbers, cube_numbered}

-- The cube, and which centre stands at each place.
pub record HeldState : Type 0 where
  pub cube : CubeState
  pub centres : List ℕ

unfoldable pub solved_held : HeldState
solved_held = record { cube = solved_cube; centres = numbers_from 0 6 }

-- ---- turns

-- The whole cube turned clockwise about U, R and F: from which places the centres come to U, R, F, D, L and B.
abbrev pub whole_quarters : List (List ℕ)
whole_quarters =
    (0 ∷ 5 ∷ 1 ∷ 3 ∷ 2 ∷ 4 ∷ []) ∷ (2 ∷ 1 ∷ 3 ∷ 5 ∷ 4 ∷ 0 ∷ []) ∷ (4 ∷ 0 ∷ 2 ∷ 1 ∷ 3 ∷ 5 ∷ []) ∷ []

-- The centres after the whole cube was turned clockwise about a place, so often.
unfoldable pub whole_turned : ℕ → List ℕ → ℕ → List ℕ
whole_turned place centres zero = centres
whole_turned place centres (suc n) = pick (whole_turned place centres n) (slice_index_or whole_quarters place [])

-- What a letter turns of the cube itself, by the same amount: a turn of one layer turns the face whose centre stands at
-- its place, and a wide turn, which carries along all but the opposite layer, that whose centre stands opposite.
abbrev pub face_letter : List ℕ → Turn → Turn
face_letter centres (Face place depth amount) =
    Face (slice_index centres (if depth == 1 then place else (place + 3) % 6)) 1 amount
face_letter centres t = t

-- The centres after it: a turn of one layer leaves them, and a wide turn turns the whole cube besides.
abbrev pub centres_after : List ℕ → Turn → List ℕ
centres_after centres (Face place depth amount) = if depth == 1 then centres else whole_turned place centres amount
centres_after centres t = centres

-- What a letter makes of a held cube: nothing where it is no turn of the event.
unfoldable pub held_cube_after : HeldState → Turn → Option HeldState
held_cube_after s t =
    if permits Bf333 t
    then option_map (λ cube. record { cube = cube; centres = centres_after s.centres t })
    (after_letter cube_powers s.cube (face_letter s.centres t))
    else None

-- The faces that a word turns, with their amounts, where the centres stand so at first.
unfoldable pub faces_turned : List ℕ → List Turn → List Turn
faces_turned centres [] = []
faces_turned centres (t ∷ w) = face_letter centres t ∷ faces_turned (centres_after centres t) w

-- ---- holds

-- The first part of a hold's word: nothing, Rw, Rw2, Rw', Fw or Fw'; and the second: nothing, Uw, Uw2 or Uw'.
abbrev pub first_holds : List (List Turn)
first_holds =
    [] ∷ (Face 1 2 1 ∷ []) ∷ (Face 1 2 2 ∷ []) ∷ (Face 1 2 3 ∷ []) ∷ (Face 2 2 1 ∷ []) ∷ (Face 2 2 3 ∷ []) ∷ []

abbrev pub second_holds : List (List Turn)
second_holds = [] ∷ (Face 0 2 1 ∷ []) ∷ (Face 0 2 2 ∷ []) ∷ (Face 0 2 3 ∷ []) ∷ []

-- The word of hold a + 6 b: its first part is number a, and its second number b.
unfoldable pub hold_word : ℕ → List Turn
hold_word hold = slice_index_or first_holds (hold % 6) [] ++ slice_index_or second_holds (hold / 6) []

-- The centres of a hold are those that its word gives from solved.
unfoldable pub hold_centres : ℕ → List ℕ
hold_centres hold = option_map_or (λ s. s.centres) (play held_cube_after solved_held (hold_word hold)) []

-- The centres of the 24 holds, in the order of their numbers.
unfoldable pub holds : List (List ℕ)
holds = map hold_centres (numbers_from 0 24)

-- The number of the hold with these centres.
unfoldable pub hold_of : List ℕ → ℕ
hold_of centres = unwrap_or (position (λ hold. bytes_eq hold centres) holds) 0

-- ---- states

-- A cube that can be put together, in one of the holds.
pub record IsHeld (s : HeldState) : Type 0 where
  pub cube : IsCube s.cube
  pub centres : Contains holds s.centres

-- A solved cube, however it is held: as it was solved, or turned as a whole, about U, R or F, so often (WCA Regulations,
-- article 10: a puzzle is solved whichever way it stands).
pub data IsSolvedHeld : HeldState → Type 0 where
  solved_upright : IsSolvedHeld solved_held
  solved_turned : (place : ℕ) (s : HeldState) → place < 3 → IsSolvedHeld s
      → IsSolvedHeld (record { cube = s.cube; centres = whole_turned place s.centres 1 })

-- Each turn counts once (WCA Regulations, article 4).
abbrev pub held_puzzle : Puzzle HeldState
held_puzzle = record { Turn = Turn; after = held_cube_after; IsSolved = IsSolvedHeld; counted = λ t. 1 }

-- ---- numbers

-- The numbers of the hold and of the cube.
unfoldable pub held_digits : HeldState → List ℕ
held_digits s = hold_of s.centres ∷ cube_numbers.number_of s.cube ∷ []

-- The numbered states, 1,038,048,078,587,756,544,000 of them, each cube in 24 holds: the number of the hold is the
-- least digit.
abbrev pub held_numbers : Numbers HeldState
held_numbers = numbers_by_digits (24 ∷ cube_numbers.count ∷ []) held_digits IsHeld

-- The held cube with these two numbers.
unfoldable pub held_of_digits : List ℕ → HeldState
held_of_digits ds =
    record { cube = cube_numbered.state_at (slice_index ds 1); centres = hold_centres (slice_index ds 0) }

-- and with the state of each number
abbrev pub held_numbered : Numbered HeldState
held_numbered = numbered_by_digits (24 ∷ cube_numbers.count ∷ []) held_of_digits held_digits IsHeld
