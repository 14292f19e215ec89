use Rattle.std.proofs.Common.{take}
use Rattle.std.specs.Prelude.{All}
use Rattle.scr_notation.specs.Event.{events}
use Rattle.scr_slots.proofs.EachEvent.{IsFairIn}
use Rattle.scr_slots.proofs.laws.each_drawn_fairly.Given as goal

abbrev pub invariant-loop-event : goal.invariant-loop-event
invariant-loop-event l = All (IsFairIn l.tables) (take l.event-index events)
