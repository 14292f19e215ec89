-- A coordinate at worked positions.
use Rattle.std.specs.Prelude.{◌≡◌, ℕ, Some, None, true, false}
use Rattle.scr_positions.specs.Coordinates.{Coordinate}

-- How many positions and turns there are, and a turn that leads from position 0 to another, with the turn that leads
-- back.
pub record Row : Type 0 where
  pub count : ℕ
  pub turns : ℕ
  pub turn : ℕ
  pub to : ℕ
  pub back : ℕ

-- It is so of a coordinate, and of these two positions the first one is a goal.
pub record HasRow (c : Coordinate) (row : Row) : Type 0 where
  pub count : c.count ≡ row.count
  pub turned : c.after 0 row.turn ≡ Some row.to
  pub turned_back : c.after row.to row.back ≡ Some 0
  pub no_more : c.after 0 row.turns ≡ None
  pub solved : c.is_goal 0 ≡ true
  pub unsolved : c.is_goal row.to ≡ false
