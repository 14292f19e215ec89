use Rattle.std.proofs.Common.{arith}
use Rattle.std.proofs.lemmas.Result.{err_from_is_err_and}
use Rattle.scr_sheet.proofs.PartLaws.{IsPartText-made}
use Rattle.scr_sheet.proofs.RoomLaws.{room-first, room-one, room-fits, room-next}
use Rattle.scr_sheet.proofs.SizeLaws.{sized-none, sized-more, sized-fault}
use Rattle.scr_sheet.proofs.load.rounds_size.Goals as goal

pub returns-in_err-round : goal.returns-in_err-round
returns-in_err-round g c =
    let p = err_from_is_err_and c.from_residual.result c.from_residual.ensures.1 in
    rw (p.1, p.2)
    (sized-fault c.args.rounds.now c.loop-index.index c.index-rounds-index.result c.index-rounds-index.is _ c.loop-index-test.true
    c.loop-index.invariant.sized c.in_err-round.ensures.made)

pub loop-index-preserved : goal.loop-index-preserved
loop-index-preserved g c =
    record {
      sized =
          sized-more c.args.rounds.now c.loop-index.index c.index-rounds-index.result c.index-rounds-index.is c.loop-index-test.true
          c.loop-index.invariant.sized (record { text = _; is = IsPartText-made {settings = c.args.making.now.settings} c.loop-index.index c.index-rounds-index.result (rw c.deref.ensures.value c.in_ok-round.ensures.made); amounts = c.round_size-more.ensures.size });
      few = omega (arith, c.loop-index.invariant.few, c.round_size-more.ensures.few);
      low = omega (arith, c.loop-index.invariant.low, c.round_size-more.ensures.low);
      room =
          room-next c.args.rounds.now c.loop-index.index c.loop-index.room c.round.new.room c.loop-index.invariant.room
          c.loop-index-test.true c.in_ok-round.ensures.room;
    }

pub loop-index-init : goal.loop-index-init
loop-index-init g c = record {
  sized = sized-none _ _;
  few = omega arith;
  low = omega arith;
  room = room-first c.args.rounds.now c.args.room.now c.requires.room;
}

pub round-requires-clause-room : goal.round-requires-clause-room
round-requires-clause-room g c κs within =
    room-one c.args.rounds.now c.loop-index.index c.loop-index.room c.loop-index.invariant.room c.loop-index-test.true

pub round-requires-clause-slots : goal.round-requires-clause-slots
round-requires-clause-slots g c κs within =
    room-fits c.args.rounds.now c.loop-index.index c.loop-index.room c.index-rounds-index.result c.loop-index.invariant.room c.loop-index-test.true
    c.index-rounds-index.is
