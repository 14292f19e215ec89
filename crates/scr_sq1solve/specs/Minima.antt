-- Whether a Square-1 needs at least so many turns, as a test that tries all turns.
use Rattle.std.specs.Prelude.{ℕ, Bool, not, ◌==◌, ◌&&◌, if◌then◌else◌, length, None}
use Rattle.scr_notation.specs.TurnNumbers.{layer_turn_at}
use Rattle.scr_notation.specs.Ranges.{same}
use Rattle.scr_table.specs.Moves.{MoveSet, after_move}
use Rattle.scr_table.specs.TriedWords.{needs_test as tried}
use Rattle.scr_sq1.specs.Units.{Sq1State, solved_sq1, sq1_after}

-- the units are those of the solved state, and the equator doesn't stand turned
unfoldable pub is_solved_sq1 : Sq1State → Bool
is_solved_sq1 s = same s.units solved_sq1.units && not s.equator

-- The turns by their numbers. What has not 24 units has no turns.
abbrev pub sq1_moves : MoveSet Sq1State
sq1_moves = record {
  count = 144;
  after = λ s n. if length s.units == 24 then sq1_after s (layer_turn_at n) else None;
  is_solved = is_solved_sq1;
}

-- Whether a state needs at least so many turns.
abbrev pub needs_test_sq1 : Sq1State → ℕ → Bool
needs_test_sq1 = tried 144 (after_move sq1_moves) is_solved_sq1
