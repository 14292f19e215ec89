-- Orderly words of the turns of a cube, and where words lead.
--
-- A turn is told by its number: U U2 U' R R2 R' F F2 F' D D2 D' L L2 L' B B2 B' are 0 to 17.
use Rattle.std.specs.Prelude.{ℕ, ◌-◌, ◌/◌, ◌%◌, ◌==◌, ◌&&◌, nat_lt, Bool, true, false, if◌then◌else◌, List, ◌∷◌, length, slice_get, Option}
use Rattle.std.specs.Option.{option_map_or}
use Rattle.scr_combinatorics.specs.Play.{play}
use Rattle.scr_orbit.specs.PowerPuzzles.{after_letter}
use Rattle.scr_notation.specs.TurnNumbers.{face_turn_at}
use Rattle.scr_cube.specs.Cube333.{CubeState, cube_powers}

-- ---- orderly words

-- The axis of a turn: up and down, right and left, or front and back. Its face, of U R F D L B, is t / 3.
abbrev pub axis_of : ℕ → ℕ
axis_of t = t / 3 % 3

-- One turn may stand right before another unless both are of one face, or of opposite faces with the higher number
-- first.
unfoldable pub may_precede : ℕ → ℕ → Bool
may_precede first second = if axis_of first == axis_of second then nat_lt (first / 3) (second / 3) else true

-- Of each two neighbours the first may precede the second.
unfoldable pub is_orderly : List ℕ → Bool
is_orderly (t ∷ u ∷ w) = may_precede t u && is_orderly (u ∷ w)
is_orderly _ = true

-- the word is empty, or its last turn passes a test
abbrev pub ends_with : (ℕ → Bool) → List ℕ → Bool
ends_with test word = option_map_or test (slice_get word (length word - 1)) true

-- a turn may stand right behind a word
unfoldable pub may_end : List ℕ → ℕ → Bool
may_end word t = ends_with (λ last. may_precede last t) word

-- ---- what turns lead to

-- what the turn with a number makes of a cube, or nothing where there is no such turn
abbrev pub after_turn : CubeState → ℕ → Option CubeState
after_turn c t = after_letter cube_powers c (face_turn_at t)

-- the word leads to a cube that passes a test
abbrev pub leads : (CubeState → Bool) → CubeState → List ℕ → Bool
leads test c word = option_map_or test (play after_turn c word) false
