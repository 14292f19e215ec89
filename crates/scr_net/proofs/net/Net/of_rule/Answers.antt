use Rattle.std.proofs.Common.{◌-◌, arith}
use Rattle.scr_net.specs.Geometry.{sticker_at}
use Rattle.scr_net.specs.Nets.{cell}
use Rattle.scr_net.proofs.StickerLaws.{IsSticker-at}
use Rattle.scr_net.proofs.NetLaws.{letters-below}
use Rattle.scr_net.proofs.net.Net.of_rule.Goals as goal

pub invariant_of-result : goal.invariant_of-result
invariant_of-result g c = record {
  shape = c.shown.ensures.shape;
  letters = letters-below g.row.SIDE c.shown.result c.shown.ensures.shape (λ face row column lf lr lc.
      c.requires.below (sticker_at (g.row.SIDE - 1) face row column) (cell c.shown.result face row column)
      (IsSticker-at (g.row.SIDE - 1) face row column lf (omega arith) (omega arith)) (c.shown.ensures.each face row column lf lr lc));
}
