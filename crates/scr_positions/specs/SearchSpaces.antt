-- What a search works on, and views of it in which a search finds the same. No puzzle stands here.
use Rattle.std.specs.Prelude.{◌≡◌, ℕ, ◌<◌, ◌↔◌, Bool, IsTrue, List, Option, Some}
use Rattle.std.specs.Option.{option_map}
use Rattle.scr_combinatorics.specs.Play.{play}
use Rattle.scr_combinatorics.specs.FirstWord.{LeadsTo, IsFirstWord, IsDistance}
use Rattle.scr_positions.specs.Coordinates.{Coordinate, moved, IsGoal as IsGoalOf}

-- States, those of them that are valid, where the turn of a number leads from each, or nothing where it is barred, and
-- which states are goals.
pub record SearchSpace (S : Type 0) : Type 1 where
  pub IsValid : S → Type 0
  pub after : S → ℕ → Option S
  pub IsGoal : S → Type 0

-- The same by tests, over which a law can speak of any space.
abbrev pub tested_space : {S : Type 0} → (S → Bool) → (S → ℕ → Option S) → (S → Bool) → SearchSpace S
tested_space valid after goal = record { IsValid = λ s. IsTrue (valid s); after = after; IsGoal = λ s. IsTrue (goal s) }

-- The positions of a coordinate.
abbrev pub positions : Coordinate → SearchSpace ℕ
positions c = record { IsValid = λ p. p < c.count; after = moved c; IsGoal = IsGoalOf c }

-- A view of the states of one space as those of another goes along with turns: from a valid state a turn is defined in
-- both or in neither, and leads to the view of the turned state. Turns keep states valid; the view of a valid state is
-- valid, and a goal exactly where the state is one.
pub record Follows {S R : Type 0} (space : SearchSpace S) (other : SearchSpace R) (view : S → R) : Type 0 where
  pub kept : (s r : S) (t : ℕ) → space.IsValid s → space.after s t ≡ Some r → space.IsValid r
  pub valid : (s : S) → space.IsValid s → other.IsValid (view s)
  pub turned : (s : S) (t : ℕ) → space.IsValid s → other.after (view s) t ≡ option_map view (space.after s t)
  pub goals : (s : S) → space.IsValid s → space.IsGoal s ↔ other.IsGoal (view s)

-- A search finds the same from a valid state and from its view: words lead from the one to goals exactly where they do
-- from the other, and so both have the same distances and the same first words.
pub record FindsTheSame {S R : Type 0} (space : SearchSpace S) (other : SearchSpace R) (view : S → R) : Type 0 where
  pub played : (s : S) (w : List ℕ) → space.IsValid s → play other.after (view s) w ≡ option_map view (play space.after s w)
  pub words : (s : S) (w : List ℕ) → space.IsValid s
      → LeadsTo space.after space.IsGoal s w ↔ LeadsTo other.after other.IsGoal (view s) w
  pub distances : (s : S) (d : ℕ) → space.IsValid s
      → IsDistance space.after space.IsGoal s d ↔ IsDistance other.after other.IsGoal (view s) d
  pub first_words : (s : S) (w : List ℕ) → space.IsValid s
      → IsFirstWord space.after space.IsGoal s w ↔ IsFirstWord other.after other.IsGoal (view s) w

-- A coordinate, the second, shows the same as another: as many positions and turns, and at each position the same turns
-- and goals.
pub record ShowsSame (c shown : Coordinate) : Type 0 where
  pub count : shown.count ≡ c.count
  pub turns : shown.turns ≡ c.turns
  pub after : (p t : ℕ) → p < c.count → t < c.turns → shown.after p t ≡ c.after p t
  pub is_goal : (p : ℕ) → p < c.count → shown.is_goal p ≡ c.is_goal p
