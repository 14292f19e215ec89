-- Two coordinates side by side as one.
use Rattle.std.specs.Prelude.{ℕ, ◌+◌, ◌*◌, ◌/◌, ◌%◌, ◌&&◌, Option, Some, None}
use Rattle.scr_positions.specs.Coordinates.{Coordinate}

-- Two positions, or one of them and none, as one position, where the low coordinate has so many.
abbrev pub side_by_side : ℕ → Option ℕ → Option ℕ → Option ℕ
side_by_side low_count None high = None
side_by_side low_count (Some low) None = None
side_by_side low_count (Some low) (Some high) = Some (low + low_count * high)

-- Position low + low_count * high stands for the position low of one coordinate and the position high of the other.
-- Each turn moves both, and is barred where either bars it; a goal is where both have one.
abbrev pub product_coordinate : Coordinate → Coordinate → Coordinate
product_coordinate low high = record {
  count = low.count * high.count;
  turns = low.turns;
  after = λ p t. side_by_side low.count (low.after (p % low.count) t) (high.after (p / low.count) t);
  is_goal = λ p. low.is_goal (p % low.count) && high.is_goal (p / low.count);
}
