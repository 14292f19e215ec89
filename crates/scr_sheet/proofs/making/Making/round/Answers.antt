use Rattle.std.proofs.Common.{refl, ◌++◌, length, drop, arith}
use Rattle.std.proofs.lemmas.List.Elements.{All-append, All-take, All-drop}
use Rattle.scr_workers.specs.Boards.{HasRoom}
use Rattle.scr_sheet.proofs.RoomLaws.{spends-one}
use Rattle.scr_sheet.proofs.making.Making.round.Goals as goal

pub returns-in-Err-clause-made : goal.returns-in-Err-clause-made
returns-in-Err-clause-made g c = (c.in-Err.slot, refl, rw c.new-jobs.ensures at c.in-Err.ensures.made)

pub returns-in-Ok-clause-room : goal.returns-in-Ok-clause-room
returns-in-Ok-clause-room g c =
    let old = c.args.room.now.lanes.items in
    let new = c.answer_slots-answered.new.lanes in
    spends-one _ _ (omega (arith, c.in-Some.ensures.cases)) (omega arith)
    (λ slots each.
    All-take (HasRoom slots) c.args.room.now.lanes.len (new ++ drop (length new) old)
    (All-append (HasRoom slots) new (drop (length new) old) (c.answer_slots-answered.ensures.room slots (rw c.as_mut_slice.ensures.value each))
    (All-drop (HasRoom slots) (length new) old each)))
    (omega arith) c.answer_slots-answered.ensures.list

pub returns-in-Err-clause-room : goal.returns-in-Err-clause-room
returns-in-Err-clause-room g c =
    let old = c.args.room.now.lanes.items in
    let new = c.answer_slots-answered.new.lanes in
    spends-one _ _ (omega (arith, c.in-Some.ensures.cases)) (omega arith)
    (λ slots each.
    All-take (HasRoom slots) c.args.room.now.lanes.len (new ++ drop (length new) old)
    (All-append (HasRoom slots) new (drop (length new) old) (c.answer_slots-answered.ensures.room slots (rw c.as_mut_slice.ensures.value each))
    (All-drop (HasRoom slots) (length new) old each)))
    (omega arith) c.answer_slots-answered.ensures.list
