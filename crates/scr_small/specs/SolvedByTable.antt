-- What is so of a puzzle that one table solves, and what its scrambles are.
use Rattle.std.specs.Prelude.{◌≡◌, ◌*◌, ◌^◌, ◌<◌, ◌≤◌, Some}
use Rattle.scr_combinatorics.specs.Play.{play}
use Rattle.scr_notation.specs.declared.turn.Turn.{Turn}
use Rattle.scr_notation.specs.Event.{kind_of}
use Rattle.scr_notation.specs.Turning.{opposite}
use Rattle.scr_notation.specs.TurnNumbers.{turn_at, turn_count}
use Rattle.scr_notation.specs.Written.{Written, at_most, IsTheScramble}
use Rattle.scr_small.specs.declared.state_table.StateTable.{StateTable}
use Rattle.scr_small.specs.NumberedPuzzles.{NumberedPuzzle, IsScrambleOf}
use Rattle.scr_small.specs.LawfulPuzzles.{IsNumberedPuzzle}
use Rattle.scr_small.specs.StateParts.{MovesByParts}
use Rattle.scr_small.specs.Tables.{small_line, table_line}

-- It is a numbered puzzle, whose turns are the first ones of its event and are taken back by the notation's opposites.
-- Its states are two parts, the solved one has the number 0, and its table, which is not too large, is that of the
-- event.
pub record IsSolvedByTable {S : Type 0} (p : NumberedPuzzle S Turn) (table : StateTable) : Type 0 where
  pub lawful : IsNumberedPuzzle p
  pub letters : p.letter_at ≡ turn_at (kind_of table.event)
  pub own : p.turns ≤ turn_count (kind_of table.event)
  pub few : p.turns ≤ 256
  pub taken_back : p.opposite ≡ opposite
  pub by_parts : MovesByParts p table.low table.high
  pub fits : table.low * table.high < 2 ^ 32
  pub first : p.numbered.number_of p.solved ≡ 0
  pub of_event : small_line table.event ≡ Some (table_line p table)
  pub near : table.bound ≤ 24

-- The scramble of a state: its first solution taken back, of no more turns than the table reaches.
abbrev pub IsScrambleByTable : {S : Type 0} → NumberedPuzzle S Turn → StateTable → S → Written → Type 0
IsScrambleByTable p table = IsTheScramble table.event (IsScrambleOf p) (at_most table.bound) (play p.after p.solved)
