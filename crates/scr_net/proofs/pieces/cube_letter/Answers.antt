use Rattle.std.proofs.Common.{◌≡◌, ◌<◌, sym, subst, ap, ◌∙◌, lit<, refl}
use Rattle.std.specs.Prelude.{unwrap_or}
use Rattle.scr_cube.specs.Stickers.{corner_faces, edge_faces}
use Rattle.scr_net.specs.Pieces.{cube_letter}
use Rattle.scr_net.proofs.PieceLaws.{cube_letter-is, cube_letter-below, valid_lists}
use Rattle.scr_net.proofs.pieces.cube_letter.Goals as goal

pub returns : goal.returns
returns c =
    let value : c.unwrap_or-2.result ≡ cube_letter c.args.cube.now c.args.sticker =
    c.unwrap_or-2.ensures ∙ ap (unwrap_or c.letter_of_pieces-corner.result) c.unwrap_or.ensures
    ∙ cube_letter-is c.args.cube.now c.args.sticker c.corners-corners.result c.twists-twists.result c.edges-edges.result c.flips-flips.result
    c.letter_of_pieces-corner.result c.letter_of_pieces-edge.result c.corners-corners.ensures.same c.twists-twists.ensures.same c.edges-edges.ensures.same
    c.flips-flips.ensures.same c.letter_of_pieces-corner.ensures c.letter_of_pieces-edge.ensures in
    record { value = value; below = subst (λ x. x < 6) (sym value) (cube_letter-below c.args.cube.now c.args.sticker c.requires.face) }

pub letter_of_pieces-corner-requires : goal.letter_of_pieces-corner-requires
letter_of_pieces-corner-requires c =
    let whole = c.corners-corners.ensures in
    (lit< tt, (c.requires, valid_lists 8 3 corner_faces _ _ _ refl whole.valid.corners whole.same c.twists-twists.ensures.same))

pub letter_of_pieces-edge-requires : goal.letter_of_pieces-edge-requires
letter_of_pieces-edge-requires c =
    let whole = c.edges-edges.ensures in
    (lit< tt, (c.requires, valid_lists 12 2 edge_faces _ _ _ refl whole.valid.edges whole.same c.flips-flips.ensures.same))
