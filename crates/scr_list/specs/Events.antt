-- The events as lists and commands name them.
use Rattle.std.specs.Prelude.{ℕ, Option, List}
use Rattle.scr_notation.specs.declared.event.Event.{Event}
use Rattle.scr_notation.specs.Event.{event_of}

-- the event that a word names, by its id
unfoldable pub event_named : List ℕ → Option Event
event_named word = event_of word
