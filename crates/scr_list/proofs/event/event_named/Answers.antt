use Rattle.std.proofs.Common.{sym}
use Rattle.scr_list.proofs.EventLemmas.{event_named-no_text, event_named-text}
use Rattle.scr_list.proofs.event.event_named.Goals as goal

pub returns-in-Ok : goal.returns-in-Ok
returns-in-Ok c = event_named-text c.args.word.now c.in-Ok.id.now c.from_id.result c.in-Ok.ensures.cases.0 c.from_id.ensures

pub returns-in-Err : goal.returns-in-Err
returns-in-Err c = sym (event_named-no_text c.args.word.now c.in-Err.ensures.cases.0)
