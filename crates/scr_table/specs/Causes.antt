-- What is so where tables aren't built.
use Rattle.std.specs.Prelude.{◌≡◌, ◌≢◌, ℕ, List, [], ◌∷◌, ◌++◌, All}
use Rattle.scr_positions.specs.Coordinates.{Coordinate}
use Rattle.scr_table.specs.declared.name.TableName.{TableName}
use Rattle.scr_table.specs.declared.fault.BuildFault.{BuildFault}
use Rattle.scr_table.specs.declared.fault.BuildFault.TheVariants.{NoMemory, Gap}
use Rattle.scr_table.specs.Distances.{IsFirstGap}
use Rattle.scr_table.specs.Lines.{TableLine, HasNoGap}

-- Why one table isn't built. Want of memory has no cause that can be told; a gap names the table, and is its first.
abbrev pub IsCause : TableName → Coordinate → ℕ → BuildFault → Type 0
IsCause name c bound NoMemory = Unit {0}
IsCause name c bound (Gap table index) = (table ≡ name) × IsFirstGap c bound index

-- Among the tables with these lines, that of this name is the first that has a gap, and this is its first gap.
pub record IsFirstGapOf (lines : List TableLine) (name : TableName) (index : ℕ) : Type 0 where
  pub before : List TableLine
  pub line : TableLine
  pub behind : List TableLine
  pub in_order : lines ≡ before ++ line ∷ behind
  pub no_gaps : All HasNoGap before
  pub named : line.name ≡ name
  pub gap : IsFirstGap line.coordinate line.bound index

-- Why the tables with these lines, built one after another, are not built. Memory is wanted only where there is a line.
abbrev pub IsCauseOf : List TableLine → BuildFault → Type 0
IsCauseOf lines NoMemory = lines ≢ []
IsCauseOf lines (Gap name index) = IsFirstGapOf lines name index
