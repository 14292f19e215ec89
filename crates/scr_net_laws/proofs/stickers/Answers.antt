use Rattle.scr_net.specs.Geometry.{row_of, column_of}
use Rattle.scr_net.proofs.StickerLaws.{IsSticker-at, IsSticker-carried, row_of-at, column_of-at, row_of-le, column_of-le, sticker_at-of}
use Rattle.scr_net.proofs.NetLaws.{letter_at-carried}
use Rattle.scr_net_laws.proofs.stickers.Goals as goal

pub returns : goal.returns
returns c = record {
  places = IsSticker-at;
  rows = λ last face row column lf lr lc. (row_of-at last face row column lf lr, column_of-at last face row column lf lc);
  whole = λ last s h. (
    row_of last s.face s.point,
    column_of last s.face s.point,
    row_of-le last s.face s.point h.face h.within,
    column_of-le last s.face s.point h.face h.within,
    sticker_at-of last s h,
  );
  kept = IsSticker-carried;
  moved = λ side face depth net s some lf h. letter_at-carried side face depth net s some lf h;
}
