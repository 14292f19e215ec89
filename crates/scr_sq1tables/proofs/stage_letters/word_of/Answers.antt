use Rattle.std.proofs.Common.{◌≡◌, ◌<◌, ◌++◌, length, map, slice_index, sym, ap, ◌∙◌, arith}
use Rattle.std.proofs.lemmas.List.{length-append, length-map}
use Rattle.scr_notation.specs.TurnNumbers.{layer_turn_at}
use Rattle.scr_notation.specs.Written.{Written}
use Rattle.scr_sq1tables.specs.Letters.{letter_of, first_word, layers_word}
use Rattle.scr_sq1tables.proofs.LetterWords.{written, first-written, first-left_out, letter-written, length-layers_word, spelled-more}
use Rattle.scr_sq1tables.proofs.stage_letters.word_of.Goals.{then-first-ne-TWIST, else-first-ne-TWIST}
use Rattle.scr_sq1tables.proofs.stage_letters.word_of.Goals as goal

pub loop-place-preserved : goal.loop-place-preserved
loop-place-preserved c =
    let l = c.loop-place in
    let letters = c.args.letters in
    let numbers = c.args.numbers.now in
    let event = ap (λ (w : Written). w.event) l.invariant.0 in
    let first = c.letter_numbers-first.result.0 in
    let begun = elim c.if-first-ne-TWIST.branch as (λ _. c.if-first-ne-TWIST.word ≡ written (l.word.turns ++ layers_word first)) [
      | then-first-ne-TWIST w ↦ first-written l.word c.if-first-ne-TWIST.word first event w.if-first-ne-TWIST.true (w.word-is ∙ w.push.ensures)
      | else-first-ne-TWIST w ↦ first-left_out l.word c.if-first-ne-TWIST.word first event w.if-first-ne-TWIST.false w.word-is
    ] in
    let n = slice_index numbers l.place in
    let lt : l.place < length numbers = c.loop-place-test.true in
    let more = letter-written c.if-first-ne-TWIST.word c.push_all.new.self l.word.turns (first_word letters n) (letter_of letters n) c.letter_numbers-first.result.1.now
    (begun ∙ ap (λ ts. written (l.word.turns ++ ts)) c.letter_numbers-first.ensures.turn) c.push_all.ensures c.letter_numbers-first.ensures.letter in
    let turns = ap (λ (w : Written). w.turns) l.invariant.0 in (
      more ∙ ap written (ap (λ ts. ts ++ letter_of letters n) turns ∙ sym (spelled-more (letter_of letters) numbers l.place lt)),
      omega (
        arith,
        ap (λ (w : Written). length w.turns) more,
        length-append l.word.turns (letter_of letters n),
        ap length c.letter_numbers-first.ensures.letter,
        length-append (first_word letters n) (map layer_turn_at c.letter_numbers-first.result.1.now),
        length-map c.letter_numbers-first.result.1.now layer_turn_at,
        ap length c.letter_numbers-first.ensures.turn,
        length-layers_word first,
        c.letter_numbers-first.ensures.few,
        l.invariant.1,
      ),
    )
