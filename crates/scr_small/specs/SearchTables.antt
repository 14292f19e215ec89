-- The tables of the puzzles that one table solves, as told by their states.
use Rattle.std.specs.Prelude.{◌≡◌, ℕ}
use Rattle.scr_combinatorics.specs.Numbered.{Numbers}
use Rattle.scr_orbit.specs.PowerPuzzles.{PowerPuzzle, after_letter}
use Rattle.scr_notation.specs.declared.turn.Turn.{Turn}
use Rattle.scr_table.specs.declared.name.TableName.{TableName}
use Rattle.scr_table.specs.declared.name.TableName.TheVariants.{Corners, Pyramid, Skewb}
use Rattle.scr_table.specs.SearchTables.{SearchTable, table_over}
use Rattle.scr_cube.specs.Cube222.{numbers_222, powers_222}
use Rattle.scr_tetra.specs.Pyraminx.{tetraminx_numbers, tetraminx_powers}
use Rattle.scr_tetra.specs.Skewb.{skewb_numbers, skewb_powers}

-- The table of this name over the numbered states that powers of generators turn, where none is farther from solved
-- than so many turns.
abbrev pub powers_table : {S : Type 0} → TableName → Numbers S → PowerPuzzle S Turn → ℕ → SearchTable
powers_table {S} name n p most =
    let after = λ (s : S) (k : ℕ). after_letter p s (p.letters.letter_at k) in
    table_over name (record { IsValid = n.IsValid; after = after; IsGoal = λ s. s ≡ p.monoid.solved }) n.number_of n.count most

-- That each state is at most 11 turns from solved, of the Pyraminx without its tips, is known from elsewhere, and
-- found when the table is built.
abbrev pub corners_table : SearchTable
corners_table = powers_table Corners numbers_222 powers_222 11

abbrev pub pyramid_table : SearchTable
pyramid_table = powers_table Pyramid tetraminx_numbers tetraminx_powers 11

abbrev pub skewb_table : SearchTable
skewb_table = powers_table Skewb skewb_numbers skewb_powers 11
