-- What a move table holds.
use Rattle.std.specs.Prelude.{ℕ, zero, suc, ◌+◌, ◌*◌, Bool, false, List, [], ◌∷◌, ◌++◌, Option, Some, None, nat_lt, if◌then◌else◌, slice_index, slice_index_or}
use Rattle.scr_positions.specs.Coordinates.{Coordinate, target}

-- For each turn, in order, and for each position, in order, the position that the turn leads to, or a number that is no
-- position where it is barred; and for each position whether it is a goal.
pub record Moves : Type 0 where
  pub count : ℕ
  pub turns : ℕ
  pub targets : List ℕ
  pub goals : List Bool

-- a position below the count, or none
abbrev pub position_below : ℕ → ℕ → Option ℕ
position_below count n = if nat_lt n count then Some n else None

-- The coordinate that a move table shows.
abbrev pub moves_coordinate : Moves → Coordinate
moves_coordinate m = record {
  count = m.count;
  turns = m.turns;
  after = λ p t. position_below m.count (slice_index m.targets (t * m.count + p));
  is_goal = λ p. slice_index_or m.goals p false;
}

-- f 0, f 1 .. up to f (n - 1)
unfoldable pub each_below : {X : Type 0} → (ℕ → X) → ℕ → List X
each_below f zero = []
each_below f (suc n) = each_below f n ++ f n ∷ []

-- The targets of a turn from the first n positions.
abbrev pub moves_row : Coordinate → ℕ → ℕ → List ℕ
moves_row c t n = each_below (λ p. target c p t) n
