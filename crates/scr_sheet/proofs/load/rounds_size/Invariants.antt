use Rattle.std.proofs.Common.{◌*◌, ◌≤◌, drop}
use Rattle.scr_sheet.specs.Sheet.{round_parts}
use Rattle.scr_sheet.proofs.RoomLaws.{IsRoomFrom}
use Rattle.scr_sheet.proofs.SizeLaws.{IsSizedUpTo}
use Rattle.scr_sheet.proofs.load.rounds_size.Given as goal

abbrev pub invariant-loop-index : goal.invariant-loop-index
invariant-loop-index g l = record {
  sized : IsSizedUpTo l.making.settings (round_parts 0 l.rounds) (round_parts l.index (drop l.index l.rounds)) l.index l.size;
  few : l.size.bytes ≤ l.index * 310200;
  low : l.size.sum ≤ l.index * 79101000;
  room : IsRoomFrom l.rounds l.index l.room;
}
