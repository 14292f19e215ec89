-- What some numbers draw, said with no test: which numbers hit a state, and that there is one outcome. A law of drawing
-- says so; what is drawn is defined without it.
use Rattle.std.specs.Prelude.{ℕ, ◌≡◌, ◌%◌, ◌↔◌, All, IsTrue, List, ◌∷◌, ◌++◌, Option, Some, None}
use Rattle.scr_combinatorics.specs.Reach.{Needs, IsPermitted}
use Rattle.scr_draw.specs.Attempt.{is_accepted}
use Rattle.scr_draw.specs.StateSpace.{StateSpace, Draws}

-- A number is accepted, and its state is this one, which needs so many turns.
pub record Hits {S : Type 0} (space : StateSpace S) (least v : ℕ) (s : S) : Type 0 where
  pub accepted : IsTrue (is_accepted space.count v)
  pub state : space.state_at (v % space.count) ≡ s
  pub needs : Needs space.puzzle s least

-- A number hits no state.
abbrev pub Misses : {S : Type 0} → StateSpace S → ℕ → ℕ → Type 0
Misses {S} space least v = (s : S) → Hits space least v s → ⊥

-- The first of some numbers that doesn't miss hits this state.
pub record FirstHits {S : Type 0} (space : StateSpace S) (least : ℕ) (values : List ℕ) (s : S) : Type 0 where
  pub before : List ℕ
  pub number : ℕ
  pub after : List ℕ
  pub values_are : values ≡ before ++ number ∷ after
  pub missed : All (Misses space least) before
  pub hits : Hits space least number s

-- Numbers have one outcome, whichever test tells what states need: the state that the first number which doesn't miss
-- hits, which is permitted, or none where each of them misses.
pub record HasOneOutcome {S : Type 0} (space : StateSpace S) (least : ℕ) : Type 0 where
  pub one : (values : List ℕ) (some other : Option S) → Draws space least values some → Draws space least values other → some ≡ other
  pub first : (values : List ℕ) (s : S) → Draws space least values (Some s) ↔ FirstHits space least values s
  pub none : (values : List ℕ) → Draws space least values None ↔ All (Misses space least) values
  pub permitted : (values : List ℕ) (s : S) → Draws space least values (Some s) → IsPermitted space.puzzle least s
