-- Numbered states that are turned by powers of generators are a numbered puzzle, which one table solves.
use Rattle.std.proofs.Common.{◌≡◌, ℕ, ◌*◌, ◌^◌, ◌<◌, ◌≤◌, Some, refl}
use Rattle.scr_combinatorics.specs.Numbered.{Numbered}
use Rattle.scr_combinatorics.specs.Numbering.{IsNumbering}
use Rattle.scr_orbit.specs.PowerPuzzles.{PowerPuzzle, IsPowerPuzzle}
use Rattle.scr_notation.specs.declared.turn.Turn.{Turn}
use Rattle.scr_notation.specs.Event.{kind_of}
use Rattle.scr_notation.specs.TurnNumbers.{turn_at, turn_count}
use Rattle.scr_notation.specs.Turning.{opposite, turn_merging}
use Rattle.scr_small.specs.declared.state_table.StateTable.{StateTable}
use Rattle.scr_small.specs.NumberedPuzzles.{numbered_powers}
use Rattle.scr_small.specs.LawfulPuzzles.{IsNumberedPuzzle}
use Rattle.scr_small.specs.SolvedByTable.{IsSolvedByTable}
use Rattle.scr_small.specs.StateParts.{MovesByParts}
use Rattle.scr_small.specs.Tables.{small_line, table_line}

pub IsNumberedPuzzle-powers : {S : Type 0} (n : Numbered S) (p : PowerPuzzle S Turn) → IsNumbering n
    → IsPowerPuzzle p n.IsValid opposite turn_merging → IsNumberedPuzzle (numbered_powers n p)
IsNumberedPuzzle-powers n p numbering powers = record {
  numbering = numbering;
  solved = powers.lawful.joined.solved;
  kept = powers.lawful.kept;
  taken_back = powers.lawful.taken_back;
  numbers = powers.numbers;
  no_more = powers.no_more;
}

-- how many turns there are, and how large the table is
abbrev AreSmall : ℕ → ℕ → StateTable → Type 0
AreSmall turns all table = (turns ≤ all) × (turns ≤ 256) × (table.low * table.high < 2 ^ 32) × (table.bound ≤ 24)

pub IsSolvedByTable-powers : {S : Type 0} (n : Numbered S) (p : PowerPuzzle S Turn) (table : StateTable)
    → IsNumberedPuzzle (numbered_powers n p) → MovesByParts (numbered_powers n p) table.low table.high
    → n.number_of p.monoid.solved ≡ 0 → p.letters.letter_at ≡ turn_at (kind_of table.event)
    → small_line table.event ≡ Some (table_line (numbered_powers n p) table)
    → AreSmall (numbered_powers n p).turns (turn_count (kind_of table.event)) table
    → IsSolvedByTable (numbered_powers n p) table
IsSolvedByTable-powers n p table lawful by_parts first letters of_event small = record {
  lawful = lawful;
  letters = letters;
  own = small.0;
  few = small.1;
  taken_back = refl;
  by_parts = by_parts;
  fits = small.2;
  first = first;
  of_event = of_event;
  near = small.3;
}
