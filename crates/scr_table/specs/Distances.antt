-- Distance tables as callers see them, and what is so of a built one.
use Rattle.std.specs.Prelude.{◌≡◌, ℕ, ◌<◌, ◌≤◌, List, length, slice_index}
use Rattle.scr_positions.specs.Coordinates.{Coordinate, StaysBelow, moved, IsGoal}
use Rattle.scr_combinatorics.specs.FirstWord.{LeadsTo, IsDistance}
use Rattle.scr_table.specs.declared.name.TableName.{TableName}

-- A distance table: its name, the bound that it was built with, and what stands at each position.
pub record Distances : Type 0 where
  pub name : TableName
  pub bound : ℕ
  pub distances : List ℕ

-- The table measures the coordinate: at each of its positions stands the least number of turns to a goal, and it is at
-- most the bound. The turns are those below the coordinate's number of turns, where they are not barred; they lead from
-- positions to positions.
pub record Measures (c : Coordinate) (table : Distances) : Type 0 where
  pub positions : length table.distances ≡ c.count
  pub stays_below : StaysBelow c
  pub exact : (p : ℕ) → p < c.count → IsDistance (moved c) (IsGoal c) p (slice_index table.distances p)
  pub within : (p : ℕ) → p < c.count → slice_index table.distances p ≤ table.bound

-- Each word that leads from this position to a goal has more than so many turns.
abbrev pub NoneWithin : Coordinate → ℕ → ℕ → Type 0
NoneWithin c p most = (w : List ℕ) → LeadsTo (moved c) (IsGoal c) p w → most < length w

-- A gap: a position from which no word of at most so many turns as the bound leads to a goal.
pub record IsGap (c : Coordinate) (bound index : ℕ) : Type 0 where
  pub position : index < c.count
  pub none : NoneWithin c index bound

-- The first gap: no position below it is one.
pub record IsFirstGap (c : Coordinate) (bound index : ℕ) : Type 0 where
  pub gap : IsGap c bound index
  pub none_before : (earlier : ℕ) → earlier < index → IsGap c bound earlier → ⊥
