-- Tables that are asked for, and built ones.
use Rattle.std.specs.Prelude.{◌≡◌, ◌≢◌, ℕ, ◌≤◌, List, [], ◌∷◌, ◌++◌, All, Any}
use Rattle.scr_positions.specs.Coordinates.{Coordinate}
use Rattle.scr_positions.specs.SearchSpaces.{ShowsSame}
use Rattle.scr_table.specs.declared.name.TableName.{TableName}
use Rattle.scr_table.specs.Distances.{Distances, Measures, IsGap}

-- What a table is called, what it is a table of, and how far it may reach.
pub record TableLine : Type 0 where
  pub name : TableName
  pub coordinate : Coordinate
  pub bound : ℕ

-- A table with this line has no gap.
abbrev pub HasNoGap : TableLine → Type 0
HasNoGap line = (index : ℕ) → IsGap line.coordinate line.bound index → ⊥

-- A built table is that of a line.
pub record IsTableOf (line : TableLine) (table : Distances) : Type 0 where
  pub name : table.name ≡ line.name
  pub bound : table.bound ≡ line.bound
  pub measures : Measures line.coordinate table

-- A built table is that of a line, and these moves, which have few turns, show what it is a table of.
pub record IsTableWith (line : TableLine) (moves : Coordinate) (table : Distances) : Type 0 where
  pub shown : ShowsSame line.coordinate moves
  pub few_turns : line.coordinate.turns ≤ 256
  pub is : IsTableOf line table

-- Built tables are those of some lines, one after another.
abbrev pub AreTablesOf : List TableLine → List Distances → Type 0
AreTablesOf [] [] = Unit {0}
AreTablesOf [] (table ∷ tables) = ⊥
AreTablesOf (line ∷ lines) [] = ⊥
AreTablesOf (line ∷ lines) (table ∷ tables) = IsTableOf line table × AreTablesOf lines tables

-- One of some tables has this name.
abbrev pub HasNamed : List Distances → TableName → Type 0
HasNamed tables name = Any (λ table. table.name ≡ name) tables

-- It is the first of some tables that has this name.
pub record IsFirstNamed (tables : List Distances) (name : TableName) (found : Distances) : Type 0 where
  pub before : List Distances
  pub behind : List Distances
  pub in_order : tables ≡ before ++ found ∷ behind
  pub named : found.name ≡ name
  pub none_before : All (λ table. table.name ≢ name) before
