use Rattle.std.proofs.Common.{◌↔◌, take}
use Rattle.std.specs.Prelude.{Contains}
use Rattle.scr_notation.specs.declared.event.Event.{Event}
use Rattle.scr_notation.specs.EventSets.{Has}
use Rattle.scr_slots.proofs.BuildCauses.{event_list}
use Rattle.scr_slots.proofs.tables.events_of.Given as goal

abbrev pub invariant-loop-round : goal.invariant-loop-round
invariant-loop-round l = (event : Event) → Has l.events event ↔ Contains (event_list (take l.round-index l.rounds)) event
