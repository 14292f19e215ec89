use Rattle.std.proofs.Common.{ℕ, [], get_or, ap, ◌∙◌}
use Rattle.scr_space.specs.declared.spin.Point.{Point}
use Rattle.scr_space.specs.Spins.{rotated}
use Rattle.scr_net.specs.declared.geometry.Sticker.{Sticker}
use Rattle.scr_net.proofs.StickerLaws.{turned_face, turned_faces, turned_faces-at}
use Rattle.scr_net.proofs.geometry.turned_sticker.Goals as goal

pub returns : goal.returns
returns c =
    let s = c.args.sticker in
    let with_face : ℕ → Sticker = λ face. record { point = c.rotated.result; face = face } in
    let at_point : Point → Sticker = λ point. record { point = point; face = turned_face c.args.last c.args.face c.args.depth s.face } in
    ap with_face (ap (λ face. get_or (get_or turned_faces face []) c.from-2.result 0) c.from.ensures
    ∙ ap (λ from. get_or (get_or turned_faces c.args.face []) from 0) c.from-2.ensures
    ∙ turned_faces-at c.args.last c.args.depth c.args.face s.face c.requires.face c.requires.sticker.face)
    ∙ ap at_point (c.rotated.ensures.value ∙ ap (λ turn. rotated c.args.last turn s.point) c.quarter.ensures)
