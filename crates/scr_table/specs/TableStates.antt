-- What tables as told by states have to do with the coordinates by which they are built.
use Rattle.std.specs.Prelude.{◌≡◌, ℕ, ◌<◌, ◌↔◌, List, [], ◌∷◌}
use Rattle.scr_combinatorics.specs.FirstWord.{LeadsTo, IsDistance}
use Rattle.scr_positions.specs.SearchSpaces.{SearchSpace, positions, Follows}
use Rattle.scr_table.specs.Lines.{TableLine}
use Rattle.scr_table.specs.SearchTables.{SearchTable, table_over, IsWhole}

-- A number below the count is that of some state.
abbrev pub IsEach : {S : Type 0} → SearchSpace S → (S → ℕ) → ℕ → Type 0
IsEach {S} space number_of count = (i : ℕ) → i < count → (s : S) × space.IsValid s × (number_of s ≡ i)

-- The line by which a table is built: the states of the table go along with the line's positions by their numbers, and
-- each position is the number of one.
pub record IsLineOf (table : SearchTable) (line : TableLine) : Type 0 where
  pub name : line.name ≡ table.name
  pub count : line.coordinate.count ≡ table.count
  pub bound : line.bound ≡ table.bound
  pub follows : Follows table.space (positions line.coordinate) table.number_of
  pub each : IsEach table.space table.number_of table.count

abbrev pub AreLinesOf : List SearchTable → List TableLine → Type 0
AreLinesOf [] [] = Unit {0}
AreLinesOf [] (line ∷ lines) = ⊥
AreLinesOf (table ∷ tables) [] = ⊥
AreLinesOf (table ∷ tables) (line ∷ lines) = IsLineOf table line × AreLinesOf tables lines

-- A line as a table that speaks of its positions, each by itself,
abbrev pub by_positions : TableLine → SearchTable
by_positions line =
    table_over line.name (positions line.coordinate) (λ p. p) line.coordinate.count line.bound

-- and lines as such tables.
abbrev pub all_by_positions : List TableLine → List SearchTable
all_by_positions [] = []
all_by_positions (line ∷ lines) = by_positions line ∷ all_by_positions lines

-- No table of these has a gap.
abbrev pub AreWhole : List SearchTable → Type 0
AreWhole [] = Unit {0}
AreWhole (table ∷ tables) = IsWhole table × AreWhole tables

-- What makes it the same to speak of some state with a number, and of each: the numbers below the count are those of
-- the states, and states with one number have the same words to goals, and so the same distances.
pub record SeesAlike (table : SearchTable) : Type 0 where
  pub below : (s : table.State) → table.space.IsValid s → table.number_of s < table.count
  pub each : IsEach table.space table.number_of table.count
  pub words : (s r : table.State) (w : List ℕ) → table.space.IsValid s → table.space.IsValid r
      → table.number_of s ≡ table.number_of r
      → LeadsTo table.space.after table.space.IsGoal s w ↔ LeadsTo table.space.after table.space.IsGoal r w
  pub distances : (s r : table.State) (d : ℕ) → table.space.IsValid s → table.space.IsValid r
      → table.number_of s ≡ table.number_of r
      → IsDistance table.space.after table.space.IsGoal s d ↔ IsDistance table.space.after table.space.IsGoal r d

abbrev pub EachSeesAlike : List SearchTable → Type 0
EachSeesAlike [] = Unit {0}
EachSeesAlike (table ∷ tables) = SeesAlike table × EachSeesAlike tables
