use Rattle.std.proofs.Common.{◌-◌, rules, sym, subst}
use Rattle.scr_net.specs.Geometry.{IsSticker}
use Rattle.scr_net.proofs.StickerLaws.{IsSticker-carried}
use Rattle.scr_net.proofs.net.fn.Net.quarter_back_about.of_rule.Goals as goal

pub letter_at-requires : goal.letter_at-requires
letter_at-requires g c =
    let sticker = IsSticker-carried (g.row.SIDE - 1) c.captures.face c.captures.depth c.args.sticker c.requires.face c.requires.sticker in
    (search rules, (c.requires.side, subst (IsSticker (g.row.SIDE - 1)) (sym c.carried_sticker.ensures) sticker))
