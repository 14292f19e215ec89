-- Which turns may go on a word of so many turns to the goal of a pruning table.
use Rattle.std.specs.Prelude.{◌≡◌, ℕ, ◌+◌, ◌/◌, ◌%◌, ◌^◌, ◌<◌, ◌≤◌, true, IsTrue, List, slice_get, slice_index, Some}
use Rattle.scr_positions.specs.Coordinates.{Coordinate, moved}
use Rattle.scr_table.specs.Lines.{TableLine, IsTableOf}
use Rattle.scr_search.specs.declared.outlook.Outlook.{Outlook}
use Rattle.scr_search.specs.declared.outlook.Found.{Found}
use Rattle.scr_search.specs.declared.pruning.PruningTable.{PruningTable}
use Rattle.scr_search.specs.TurnSets.{contains_turn}

-- Where the goal is no farther from a position than so many turns, a set has each of the 18 turns that leads from there
-- to where the table has fewer.
pub record HasNearer (c : Coordinate) (distances : List ℕ) (p left bits : ℕ) : Type 0 where
  pub kept : (t q : ℕ) → t < 18 → moved c p t ≡ Some q → slice_index distances p ≤ left
      → slice_index distances q < left → IsTrue (contains_turn bits t)

-- An outlook of a position says how far the goal is, and leaves such a set where so many turns may still be made, and
-- where one more may be.
pub record IsOutlook (c : Coordinate) (distances : List ℕ) (p : ℕ) (o : Outlook) : Type 0 where
  pub far : o.nearer / 2 ^ 18 ≡ slice_index distances p
  pub near : HasNearer c distances p (o.nearer / 2 ^ 18) (o.nearer % 2 ^ 18)
  pub level : HasNearer c distances p (o.nearer / 2 ^ 18 + 1) (o.no_farther % 2 ^ 18)

-- Of the turns below a number those that lead nearer than the position is are found, and those that lead no farther.
pub record AreFound (c : Coordinate) (distances : List ℕ) (p turn : ℕ) (found : Found) : Type 0 where
  pub near : (t q : ℕ) → t < turn → moved c p t ≡ Some q → slice_index distances q < slice_index distances p
      → contains_turn found.nearer.bits t ≡ true
  pub level : (t q : ℕ) → t < turn → moved c p t ≡ Some q → slice_index distances q ≤ slice_index distances p
      → contains_turn found.no_farther.bits t ≡ true
  pub few_near : found.nearer.bits < 2 ^ 18
  pub few_level : found.no_farther.bits < 2 ^ 18

-- Outlooks stand at their positions; there may be none.
pub record AreOutlooks (c : Coordinate) (distances : List ℕ) (all : List Outlook) : Type 0 where
  pub each : (p : ℕ) (o : Outlook) → p < c.count → slice_get all p ≡ Some o → IsOutlook c distances p o

-- They are those of a pruning table of a line.
abbrev pub AreOutlooksOf : TableLine → PruningTable → List Outlook → Type 0
AreOutlooksOf line table all = AreOutlooks line.coordinate table.distances.distances all

-- A pruning table is that of a line, with outlooks or without.
pub record IsPruningTable (line : TableLine) (table : PruningTable) : Type 0 where
  pub distances : IsTableOf line table.distances
  pub outlooks : AreOutlooks line.coordinate table.distances.distances table.outlooks.items
