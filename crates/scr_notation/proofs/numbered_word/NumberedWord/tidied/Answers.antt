use Rattle.std.proofs.Common.{◌≡◌, ◌-◌, ◌<◌, ◌≤◌, [], drop, get_or, length, ap, subst, sym, ◌∙◌, arith, rules}
use Rattle.std.specs.Prelude.{All, map}
use Rattle.std.proofs.lemmas.List.{drop_all}
use Rattle.std.proofs.lemmas.List.Elements.{All-nil}
use Rattle.scr_combinatorics.specs.Tidy.{tidy, with_turn}
use Rattle.scr_notation.specs.Event.{kind_of}
use Rattle.scr_notation.specs.Kinds.{IsKind}
use Rattle.scr_notation.specs.TurnNumbers.{turn_at, turn_count}
use Rattle.scr_notation.specs.Turning.{turn_merging}
use Rattle.scr_notation.specs.Written.{IsWritten, numbered_word}
use Rattle.arrayvec.proofs.ArrayVecLemmas.{items-with_items}
use Rattle.scr_notation.proofs.WrittenLaws.{IsWritten-numbered}
use Rattle.scr_notation.proofs.TidyingLaws.{turns_of, tidy-more}
use Rattle.scr_notation.proofs.numbered_word.NumberedWord.tidied.Goals as goal

pub loop-place-init : goal.loop-place-init
unfolding tidy
loop-place-init c =
    let kind = c.row-kind.result.kind in
    let numbers = c.self.inside.numbers.items in
    let none : drop c.len-place.result numbers ≡ [] = drop_all c.len-place.result numbers (omega (arith, c.len-place.ensures.value)) in (
      ap (turns_of kind) c.new-numbers.ensures ∙ sym (ap (λ ns. tidy turn_merging (map (turn_at kind) ns)) none),
      subst (All (λ n. n < turn_count kind)) (sym c.new-numbers.ensures) (All-nil (λ n. n < turn_count kind)),
      omega (arith, ap length c.new-numbers.ensures, c.len-place.ensures.value),
    )

pub loop-place-preserved : goal.loop-place-preserved
loop-place-preserved c =
    let kind = c.row-kind.result.kind in
    let numbers = c.self.inside.numbers.items in
    let place = c.loop-place.place in
    let before = c.loop-place.numbers.items in
    let room = c.loop-place.invariant.2 in (
      tidy-more kind numbers place 0 before c.put_before.new.last_first.items c.loop-place-test.true (omega (arith, room)) c.loop-place.invariant.0
          (c.put_before.ensures.word
          ∙ ap (λ ns. with_turn turn_merging (turn_at kind (get_or ns (place - 1) 0)) (turns_of kind before)) c.deref.ensures.0),
      c.put_before.ensures.below,
      omega (arith, c.put_before.ensures.len, room, c.loop-place-test.true),
    )

pub returns-clause-valid : goal.returns-clause-valid
returns-clause-valid c =
    let event = c.self.inside.event in
    let kind : IsKind (kind_of event) = subst IsKind c.row-kind.ensures.kind c.row-kind.ensures.depths in
    let few : length c.reverse.new.self ≤ 160 = omega (arith, c.reverse.ensures.len, c.as_mut_slice.ensures.fits) in
    let below : All (λ n. n < turn_count (kind_of event)) c.reverse.new.self = search rules in
    let same : length c.reverse.new.self ≡ length c.loop-place.numbers.items = omega (arith, c.reverse.ensures.len, ap length c.as_mut_slice.ensures.value) in
    subst (λ numbers. IsWritten (numbered_word event numbers)) (sym (items-with_items c.loop-place.numbers c.reverse.new.self same))
    (IsWritten-numbered event c.reverse.new.self kind few below)
