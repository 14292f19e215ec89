use Rattle.std.proofs.Common.{◌≡◌, ◌<◌, sym, subst, ap, ◌∙◌, length, lit<}
use Rattle.scr_net.specs.Pieces.{corners_letter, letter_of_pieces}
use Rattle.scr_net.proofs.PieceLaws.{corners_letter-is, corners_letter-below, valid_lists}
use Rattle.scr_net.proofs.pieces.corners_letter.Goals as goal

pub returns : goal.returns
returns c =
    let value : c.unwrap_or.result ≡ corners_letter c.args.state.now c.args.sticker =
    c.unwrap_or.ensures
    ∙ corners_letter-is c.args.state.now c.args.sticker c.corners-corners.result c.twists-twists.result c.letter_of_pieces-corner.result
    c.corners-corners.ensures.same c.twists-twists.ensures.same
    (c.letter_of_pieces-corner.ensures
    ∙ ap (λ places. letter_of_pieces 1 places (record { pieces = c.corners-corners.result; digits = c.twists-twists.result }) c.args.sticker) c.places_222-places.ensures) in
    record { value = value; below = subst (λ x. x < 6) (sym value) (corners_letter-below c.args.state.now c.args.sticker c.requires.face) }

pub letter_of_pieces-corner-requires : goal.letter_of_pieces-corner-requires
letter_of_pieces-corner-requires c = (
  lit< tt,
  (
    c.requires,
    valid_lists 7 3 c.places_222-places.result c.args.state.now c.corners-corners.result c.twists-twists.result (ap length c.places_222-places.ensures)
        c.corners-corners.ensures.valid c.corners-corners.ensures.same c.twists-twists.ensures.same,
  ),
)
