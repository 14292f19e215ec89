-- A row of positions: from each but the first, one turn leads to the position before, and the first is the goal.
use Rattle.std.specs.Prelude.{ℕ, ◌-◌, ◌==◌, Some, None, if◌then◌else◌}
use Rattle.scr_positions.specs.Coordinates.{Coordinate}
use Rattle.scr_table.specs.declared.name.TableName.{TableName}
use Rattle.scr_table.specs.Lines.{TableLine}

abbrev pub row_coordinate : ℕ → Coordinate
row_coordinate n = record {
  count = n;
  turns = 1;
  after = λ p t. if p == 0 then None else Some (p - 1);
  is_goal = λ p. p == 0;
}

-- a table of the row, of this name, that may reach so far
abbrev pub row_line : ℕ → TableName → ℕ → TableLine
row_line n name bound = record { name = name; coordinate = row_coordinate n; bound = bound }
