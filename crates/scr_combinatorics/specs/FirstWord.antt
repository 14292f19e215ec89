-- The first word to a goal. Words are lists of turn numbers.
use Rattle.std.specs.Prelude.{◌≡◌, ℕ, ◌<◌, ◌≤◌, List, length, ◌⊎◌, Option, Some}
use Rattle.scr_combinatorics.specs.Lists.{ComesBefore}
use Rattle.scr_combinatorics.specs.Play.{play}

-- A word is defined from this state, and ends where the goal holds.
pub record LeadsTo {S : Type 0} (after : S → ℕ → Option S) (IsGoal : S → Type 0) (s : S) (w : List ℕ) : Type 0 where
  pub end : S
  pub played : play after s w ≡ Some end
  pub goal : IsGoal end

-- the order of words: by length, then by turn numbers from the first turn
abbrev pub IsEarlier : List ℕ → List ℕ → Type 0
IsEarlier v w = (length v < length w) ⊎ ((length v ≡ length w) × ComesBefore v w)

-- The first word from this state to the goal: it leads there, and each other that does comes later.
pub record IsFirstWord {S : Type 0} (after : S → ℕ → Option S) (IsGoal : S → Type 0) (s : S) (w : List ℕ) : Type 0 where
  pub leads : LeadsTo after IsGoal s w
  pub first : (v : List ℕ) → LeadsTo after IsGoal s v → (v ≡ w) ⊎ IsEarlier w v

-- The least number of turns from this state to the goal: a word of so many leads there, and none that leads there has
-- fewer. That there is such a word is truncated, so that the fact is a proposition.
pub record IsDistance {S : Type 0} (after : S → ℕ → Option S) (IsGoal : S → Type 0) (s : S) (d : ℕ) : Type 0 where
  pub reached : ∥ ((w : List ℕ) × LeadsTo after IsGoal s w × (length w ≡ d)) ∥₁
  pub least : (w : List ℕ) → LeadsTo after IsGoal s w → d ≤ length w

-- A turn is the first that leads to a state at this distance.
pub record LowersFirst {S : Type 0} (after : S → ℕ → Option S) (IsGoal : S → Type 0) (s r : S) (t d : ℕ) : Type 0 where
  pub leads : after s t ≡ Some r
  pub lower : IsDistance after IsGoal r d
  pub first : (u : ℕ) (q : S) → u < t → after s u ≡ Some q → IsDistance after IsGoal q d → ⊥
