use Rattle.std.proofs.Common.{Some, get_or, sym, ap, ◌∙◌, []}
use Rattle.std.specs.Prelude.{slice_index}
use Rattle.scr_net.proofs.PieceLaws.{letter-nowhere, letter-unnumbered, letter-found}
use Rattle.scr_net.proofs.pieces.letter_of_pieces.Goals as goal

pub returns-in_err-place : goal.returns-in_err-place
returns-in_err-place g c =
    c.from_residual.ensures
    ∙ sym (letter-nowhere c.args.last c.args.places.now c.args.pieces.now c.args.digits.now c.args.sticker (sym c.place_at.ensures.value ∙ c.in_err-place.was))

pub returns-in_err-number : goal.returns-in_err-number
returns-in_err-number g c =
    c.from_residual-in_err-number.ensures
    ∙ sym (letter-unnumbered c.args.last c.args.places.now c.args.pieces.now c.args.digits.now c.args.sticker c.in_ok-place.place c.index-places-place.result
    c.in_ok-place.ensures.below c.index-places-place.is (sym c.place_at.ensures.value ∙ c.in_ok-place.was) (sym c.number_at.ensures.value ∙ c.in_err-number.was))

pub returns : goal.returns
returns g c =
    ap (λ i. Some (slice_index (get_or c.args.places.now i []) c.in_ok-number.number)) c.from.ensures
    ∙ sym (letter-found c.args.last c.args.places.now c.args.pieces.now c.args.digits.now c.args.sticker c.in_ok-place.place c.in_ok-number.number
    c.index-places-place.result c.in_ok-place.ensures.below c.index-places-place.is (sym c.place_at.ensures.value ∙ c.in_ok-place.was)
    (sym c.number_at.ensures.value ∙ c.in_ok-number.was))
