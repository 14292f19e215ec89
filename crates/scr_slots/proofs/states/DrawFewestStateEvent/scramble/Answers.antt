use Rattle.std.proofs.Common.{rules}
use Rattle.scr_slots.proofs.states.DrawFewestStateEvent.scramble.Goals as goal

-- the turns of the scramble are framed, so that they are played
pub returns : goal.returns
returns c =
    let s = c.scramble_333fm.ensures.scramble in
    record { of_event = s.of_event; scramble = s.scramble; only = s.only; within = s.within; gives = search rules }
