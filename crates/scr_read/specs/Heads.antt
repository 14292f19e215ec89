-- The head of a round.
use Rattle.std.specs.Prelude.{ℕ, List}
use Rattle.scr_notation.specs.declared.event.Event.{Event}

-- what it tells: an event, how many turns from solved each state is at least, and a name, which is empty where the
-- round has none
pub record HeadOf : Type 0 where
  pub event : Event
  pub least : ℕ
  pub name : List ℕ
