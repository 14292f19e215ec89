use Rattle.std.proofs.Common.{[], ◌∷◌, Err}
use Rattle.std.proofs.lemmas.Result.{err_from_is_err_and}
use Rattle.scr_outside.proofs.ChangeLemmas.{Gains-nothing}
use Rattle.scr_outside.specs.Change.{change_of}
use Rattle.scr_fault.specs.declared.fault.Fault.TheVariants as fault
use Rattle.scr_sheet.specs.Outcome.{EndsParts}
use Rattle.scr_sheet.specs.Sheet.{round_part}
use Rattle.scr_sheet.proofs.PartLaws.{made-none, round-more, round-fault, first-stopped, first-broken, IsWhole-first, IsPartText-made}
use Rattle.scr_sheet.proofs.RoomLaws.{room-first, room-one, room-fits, room-next}
use Rattle.scr_sheet.proofs.parts.write_rounds.Goals as goal

pub loop-index-init : goal.loop-index-init
loop-index-init g c = record { made = made-none; room = room-first c.args.rounds.now c.args.room.now c.requires.room }

pub round-requires-clause-room : goal.round-requires-clause-room
round-requires-clause-room g c κs within =
    room-one c.args.rounds.now c.loop-index.index c.loop-index.room c.loop-index.invariant.room c.loop-index-test.true

pub round-requires-clause-slots : goal.round-requires-clause-slots
round-requires-clause-slots g c κs within =
    room-fits c.args.rounds.now c.loop-index.index c.loop-index.room c.index-rounds-index.result c.loop-index.invariant.room c.loop-index-test.true
    c.index-rounds-index.is

pub returns-in_err-round : goal.returns-in_err-round
returns-in_err-round g c =
    let p = err_from_is_err_and c.from_residual.result c.from_residual.ensures.1 in
    let k = c.loop-index.index in
    let round = c.index-rounds-index.result in
    let ends : EndsParts c.args.making.now.settings k (round_part k round ∷ [])
    (change_of g.O.Sink.held g.O.Sink.faults c.loop-index.out c.loop-index.out) (Err (fault.DrawLimit c.in_err-round.field-0.0)) =
    first-stopped k c.in_err-round.field-0.0 c.in_err-round.ensures.made Gains-nothing in
    rw (p.1, p.2)
    (round-fault c.args.rounds.now k round c.index-rounds-index.is _ _ (fault.DrawLimit c.in_err-round.field-0.0) c.loop-index-test.true
    c.loop-index.invariant.made ends)

pub returns-in_err-write_slots : goal.returns-in_err-write_slots
returns-in_err-write_slots g c =
    let p = err_from_is_err_and c.from_residual-in_err-write_slots.result c.from_residual-in_err-write_slots.ensures.1 in
    let k = c.loop-index.index in
    let round = c.index-rounds-index.result in
    let text = IsPartText-made {settings = c.args.making.now.settings} k round (rw c.deref.ensures.value c.in_ok-round.ensures.made) in
    rw (p.1, p.2)
    (round-fault c.args.rounds.now k round c.index-rounds-index.is _ _ fault.Write c.loop-index-test.true
    c.loop-index.invariant.made (first-broken text c.in_err-write_slots.ensures))

pub loop-index-preserved : goal.loop-index-preserved
loop-index-preserved g c =
    let text = IsPartText-made {settings = c.args.making.now.settings} c.loop-index.index c.index-rounds-index.result (rw c.deref.ensures.value c.in_ok-round.ensures.made) in
    record {
      made =
          round-more c.args.rounds.now c.loop-index.index c.index-rounds-index.result c.index-rounds-index.is _ _ c.loop-index-test.true
          c.loop-index.invariant.made (IsWhole-first text c.in_ok-write_slots.ensures);
      room =
          room-next c.args.rounds.now c.loop-index.index c.loop-index.room c.round.new.room c.loop-index.invariant.room
          c.loop-index-test.true c.in_ok-round.ensures.room;
    }
