use Rattle.std.proofs.Common.{arith, drop}
use Rattle.std.proofs.lemmas.List.{length-take-le}
use Rattle.std.proofs.lemmas.List.Elements.{All-append, All-take, All-drop}
use Rattle.scr_workers.specs.Boards.{HasRoom}
use Rattle.scr_sheet.specs.Sheet.{round_part}
use Rattle.scr_sheet.proofs.PartLaws.{AreAnswers-placed, made-slots}
use Rattle.scr_sheet.proofs.making.Making.answer_slots.Goals as goal

pub returns-clause-room : goal.returns-clause-room
returns-clause-room g c slots each =
    All-append (HasRoom slots) c.claim_slots.new.lanes (drop c.max-workers.result c.args.lanes.now)
    (c.claim_slots.ensures.room slots (All-take (HasRoom slots) c.max-workers.result c.args.lanes.now each))
    (All-drop (HasRoom slots) c.max-workers.result c.args.lanes.now each)

pub returns-clause-made : goal.returns-clause-made
returns-clause-made g c =
    let jobs = c.args.jobs.now in
    let size = c.claim_slots.auto.out in
    let taken = length-take-le c.args.slots c.args.places.now c.requires.places in
    let are = AreAnswers-placed jobs.settings (round_part jobs.index jobs.round) c.args.slots c.claim_slots.new.out (drop c.args.slots c.args.places.now)
    (omega (arith, size, taken)) c.requires.slots c.claim_slots.ensures.out in
    made-slots jobs.settings (round_part jobs.index jobs.round) _ _ _ are c.take_scrambles.ensures.taken
