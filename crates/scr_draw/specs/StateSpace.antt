-- What an event draws from, which state some numbers draw, and what makes the drawing fair.
use Rattle.std.specs.Prelude.{ℕ, ◌≡◌, ◌<◌, ◌↔◌, Bool, IsTrue, List, Option}
use Rattle.scr_combinatorics.specs.Numbered.{Numbered}
use Rattle.scr_combinatorics.specs.Reach.{Puzzle, Needs, IsPermitted}
use Rattle.scr_draw.specs.Drawn.{drawn, hit}
use Rattle.scr_draw.specs.Fair.{IsFair}

-- What an event draws from: how many states there are, the state of each number, and the puzzle whose turns lead from
-- state to state.
pub record StateSpace (S : Type 0) : Type 1 where
  pub count : ℕ
  pub state_at : ℕ → S
  pub puzzle : Puzzle S

-- The numbered states of a puzzle.
abbrev pub space_of : {S : Type 0} → Numbered S → Puzzle S → StateSpace S
space_of n puzzle = record { count = n.count; state_at = n.state_at; puzzle = puzzle }

-- A test tells of each state that has a number whether it needs so many turns.
abbrev pub TellsNeed : {S : Type 0} → StateSpace S → ℕ → (S → Bool) → Type 0
TellsNeed space least test =
    (i : ℕ) → i < space.count → IsTrue (test (space.state_at i)) ↔ Needs space.puzzle (space.state_at i) least

-- Some numbers draw this outcome at this minimum: the state of the first number that is accepted and whose state needs
-- so many turns, or none.
pub record Draws {S : Type 0} (space : StateSpace S) (least : ℕ) (values : List ℕ) (outcome : Option S) : Type 0 where
  pub test : S → Bool
  pub tells : TellsNeed space least test
  pub drawn_is : drawn (hit space.count space.state_at test) values ≡ outcome

-- Drawing at this minimum is fair: each state that turns reach and that needs so many of them is drawn by equally many
-- lists of numbers, and no other state by any.
pub record IsFairFor {S : Type 0} (space : StateSpace S) (least : ℕ) : Type 0 where
  pub test : S → Bool
  pub tells : TellsNeed space least test
  pub fair : IsFair space.count space.state_at (hit space.count space.state_at test) (IsPermitted space.puzzle least)
