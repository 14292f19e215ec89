-- Coordinates: what a search sees of a puzzle's states, as numbers. No puzzle stands here.
use Rattle.std.specs.Prelude.{◌≡◌, ℕ, ◌+◌, ◌<◌, ◌≤◌, nat_lt, Bool, false, IsTrue, List, length, slice_index, Option, Some, None, if◌then◌else◌, unwrap_or}
use Rattle.std.specs.Option.{option_map_or}
use Rattle.scr_positions.specs.declared.coordinate.TheConstants.{BARRED, NOWHERE}

-- Positions, the numbers below a count; turns, the numbers below another; where a turn leads from a position, or
-- nothing where it is barred there; and which positions are goals.
pub record Coordinate : Type 0 where
  pub count : ℕ
  pub turns : ℕ
  pub after : ℕ → ℕ → Option ℕ
  pub is_goal : ℕ → Bool

-- Turns lead from positions to positions.
abbrev pub StaysBelow : Coordinate → Type 0
StaysBelow c = (p t q : ℕ) → p < c.count → t < c.turns → c.after p t ≡ Some q → q < c.count

-- where the turn of a number leads, or nothing where there is no such turn: over this, words of turn numbers are played
abbrev pub moved : Coordinate → ℕ → ℕ → Option ℕ
moved c p t = if nat_lt t c.turns then c.after p t else None

abbrev pub IsGoal : Coordinate → ℕ → Type 0
IsGoal c p = IsTrue (c.is_goal p)

-- no position from one on and below another is a goal
abbrev pub HasNoGoal : Coordinate → ℕ → ℕ → Type 0
HasNoGoal c from to = (p : ℕ) → from ≤ p → p < to → c.is_goal p ≡ false

-- the first goal from a position on
pub record IsNextGoal (c : Coordinate) (from position : ℕ) : Type 0 where
  pub from_on : from ≤ position
  pub below : position < c.count
  pub goal : IsGoal c position
  pub first : HasNoGoal c from position

-- where a turn leads from a position, as a number: the mark above all positions where it is barred
abbrev pub target : Coordinate → ℕ → ℕ → ℕ
target c p t = unwrap_or (c.after p t) BARRED

-- what stands at a position, or the mark where there is none
abbrev pub value_at : List ℕ → Option ℕ → ℕ
value_at values o = option_map_or (slice_index values) o NOWHERE

-- What a turn leads to from positions one after another, `start` first, among values of which each position has one.
abbrev pub AreSeen : Coordinate → List ℕ → ℕ → ℕ → List ℕ → Type 0
AreSeen c values start t seen = (k : ℕ) → k < length seen → slice_index seen k ≡ value_at values (c.after (start + k) t)
