use Rattle.std.proofs.Common.{drop}
use Rattle.scr_outside.specs.Change.{change_of}
use Rattle.scr_sheet.specs.Sheet.{round_parts}
use Rattle.scr_sheet.proofs.PartLaws.{IsMadeUpTo}
use Rattle.scr_sheet.proofs.RoomLaws.{IsRoomFrom}
use Rattle.scr_sheet.proofs.parts.write_rounds.Given as goal

abbrev pub invariant-loop-index : goal.invariant-loop-index
invariant-loop-index g l = record {
  made : IsMadeUpTo l.making.settings (round_parts 0 l.rounds) (round_parts l.index (drop l.index l.rounds)) l.index
      (change_of g.O.Sink.held g.O.Sink.faults l.fn.out l.out);
  room : IsRoomFrom l.rounds l.index l.room;
}
