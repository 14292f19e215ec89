-- Sets of events.
use Rattle.std.specs.Prelude.{◌≡◌, ℕ, Bool, true, List, Some, slice_get}
use Rattle.scr_notation.specs.declared.event.Event.{Event}
use Rattle.scr_notation.specs.Event.{events}

-- A set, which is a flag for each of the events in their order, has this one: the flag with its number is set.
pub record Has (flags : List Bool) (event : Event) : Type 0 where
  pub number : ℕ
  pub of_event : slice_get events number ≡ Some event
  pub set : slice_get flags number ≡ Some true
