-- The lines of the tables of puzzles that one table solves, as their states tell them.
use Rattle.std.proofs.Common.{ℕ, refl}
use Rattle.scr_combinatorics.specs.Numbered.{Numbered}
use Rattle.scr_orbit.specs.PowerPuzzles.{PowerPuzzle}
use Rattle.scr_notation.specs.declared.turn.Turn.{Turn}
use Rattle.scr_table.specs.declared.name.TableName.{TableName}
use Rattle.scr_table.specs.TableStates.{IsLineOf}
use Rattle.scr_cube.specs.Cube222.{numbered_222, powers_222}
use Rattle.scr_tetra.specs.Pyraminx.{numbered_tetraminx, tetraminx_powers}
use Rattle.scr_tetra.specs.Skewb.{skewb_numbered, skewb_powers}
use Rattle.scr_small.specs.NumberedPuzzles.{numbered_powers, state_line}
use Rattle.scr_small.specs.LawfulPuzzles.{IsNumberedPuzzle}
use Rattle.scr_small.specs.Puzzles.{corners_line, pyramid_line, skewb_line}
use Rattle.scr_small.specs.SearchTables.{powers_table, corners_table, pyramid_table, skewb_table}
use Rattle.scr_small.proofs.PuzzleLaws.{Follows-states}
use Rattle.scr_small.proofs.Lawful222.{lawful_puzzle_222}
use Rattle.scr_small.proofs.LawfulTetraminx.{lawful_puzzle_tetraminx}
use Rattle.scr_small.proofs.LawfulSkewb.{lawful_puzzle_skewb}

IsLineOf-powers : {S : Type 0} (n : Numbered S) (p : PowerPuzzle S Turn) → IsNumberedPuzzle (numbered_powers n p) → (name : TableName) (bound : ℕ)
    → IsLineOf (powers_table name (record { count = n.count; number_of = n.number_of; IsValid = n.IsValid }) p bound)
    (state_line (numbered_powers n p) name bound)
IsLineOf-powers n p l name bound = record {
  name = refl;
  count = refl;
  bound = refl;
  follows = Follows-states (numbered_powers n p) l;
  each = λ i below. (n.state_at i, l.numbering.one_to_one.valid i below, l.numbering.one_to_one.number_again i below);
}

pub IsLineOf-corners : IsLineOf corners_table corners_line
IsLineOf-corners = IsLineOf-powers numbered_222 powers_222 lawful_puzzle_222 corners_line.name corners_line.bound

pub IsLineOf-pyramid : IsLineOf pyramid_table pyramid_line
IsLineOf-pyramid = IsLineOf-powers numbered_tetraminx tetraminx_powers lawful_puzzle_tetraminx pyramid_line.name pyramid_line.bound

pub IsLineOf-skewb : IsLineOf skewb_table skewb_line
IsLineOf-skewb = IsLineOf-powers skewb_numbered skewb_powers lawful_puzzle_skewb skewb_line.name skewb_line.bound
