-- States by numbers, as a coordinate.
use Rattle.std.specs.Prelude.{ℕ, ◌==◌, Bool, Option}
use Rattle.std.specs.Option.{option_map}
use Rattle.scr_combinatorics.specs.Numbered.{Numbered}
use Rattle.scr_positions.specs.Coordinates.{Coordinate}

-- A turn leads from a state's number to that of the turned state. Several states may have one number, where it makes no
-- difference which of them stands for it.
abbrev pub indexed_coordinate : {S : Type 0} → Numbered S → ℕ → (S → ℕ → Option S) → (ℕ → Bool) → Coordinate
indexed_coordinate n turns after is_goal = record {
  count = n.count;
  turns = turns;
  after = λ i t. option_map n.number_of (after (n.state_at i) t);
  is_goal = is_goal;
}

-- And the goal is the number of the solved state.
abbrev pub numbered_coordinate : {S : Type 0} → Numbered S → ℕ → (S → ℕ → Option S) → S → Coordinate
numbered_coordinate n turns after solved = indexed_coordinate n turns after (λ i. i == n.number_of solved)
