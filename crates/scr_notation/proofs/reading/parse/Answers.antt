use Rattle.std.proofs.Common.{ℕ, length, ap, ◌∙◌, sym, subst, lit<}
use Rattle.std.proofs.lemmas.Iterator.Splits.{YieldsList-from_str_split}
use Rattle.std.proofs.lemmas.Iterator.Consumers.{YieldsList-turn, YieldsList-end, YieldsList-at}
use Rattle.std.proofs.lemmas.List.{length_push}
use Rattle.std.proofs.lemmas.Result.{err_from_is_err_and}
use Rattle.scr_notation.specs.Spelling.{text_of}
use Rattle.scr_notation.specs.Reading.{spaced_words, IsReadSoFar}
use Rattle.scr_notation.proofs.TextLaws.{words_of-some}
use Rattle.scr_notation.proofs.ReadLaws.{read-none, read-more, read-all, first-fault, no-fault, same-result, next-word, no-text, some-text}
use Rattle.scr_notation.proofs.reading.parse.Goals as goal

pub returns-then-is_empty-clause-each_text : goal.returns-then-is_empty-clause-each_text
returns-then-is_empty-clause-each_text c = λ s w e t.
    let none = no-text c.args.text.now c.is_empty.result c.is_empty.ensures c.if-is_empty.true in
    same-result c.new-scramble.result s c.new-scramble.ensures.valid w
    (e ∙ sym (ap (λ x. x.event) c.new-scramble.ensures.value))
    (t ∙ none ∙ sym (ap (λ x. text_of x.turns) c.new-scramble.ensures.value))

pub loop-word-init : goal.loop-word-init
loop-word-init c =
    read-none c.args.event c.args.text.now c.new-scramble.result c.new-scramble.ensures.value c.new-scramble.ensures.valid

pub returns-in_err-place-clause-fault : goal.returns-in_err-place-clause-fault
returns-in_err-place-clause-fault c =
    let some = some-text c.args.text.now c.is_empty.result c.is_empty.ensures c.if-is_empty.false in
    let y = YieldsList-at c.into_iter-word-iterator.ensures.into_iter_gives
    (YieldsList-from_str_split 32 c.args.text.now (lit< tt) c.split-word-items.ensures.text c.split-word-items.ensures.has_more c.split-word-items.ensures.pattern) in
    let t = YieldsList-turn y c.loop-word.yielded _ c.loop-word.yielded_by _ _ c.in-Some.word c.in-Some.is c.next.ensures.steps in
    let n = next-word c.args.text.now (length c.loop-word.yielded) c.in-Some.word.now some t in
    let p = err_from_is_err_and c.from_residual.result c.from_residual.ensures.1 in
    rw (p.1, p.2)
    (first-fault c.args.event c.args.text.now (length c.loop-word.yielded) c.loop-word.scramble c.loop-word.place c.in-Some.word.now c.in_err-place.field-0.0
    c.loop-word.invariant n.0 n.1 c.in_err-place.ensures.fault)

pub returns-in_err-place-clause-each_text : goal.returns-in_err-place-clause-each_text
returns-in_err-place-clause-each_text c = λ s w e t.
    let some = some-text c.args.text.now c.is_empty.result c.is_empty.ensures c.if-is_empty.false in
    let y = YieldsList-at c.into_iter-word-iterator.ensures.into_iter_gives
    (YieldsList-from_str_split 32 c.args.text.now (lit< tt) c.split-word-items.ensures.text c.split-word-items.ensures.has_more c.split-word-items.ensures.pattern) in
    let u = YieldsList-turn y c.loop-word.yielded _ c.loop-word.yielded_by _ _ c.in-Some.word c.in-Some.is c.next.ensures.steps in
    let n = next-word c.args.text.now (length c.loop-word.yielded) c.in-Some.word.now some u in
    absurd
    (no-fault c.args.event c.args.text.now c.in_err-place.field-0.0 s
    (first-fault c.args.event c.args.text.now (length c.loop-word.yielded) c.loop-word.scramble c.loop-word.place c.in-Some.word.now c.in_err-place.field-0.0
    c.loop-word.invariant n.0 n.1 c.in_err-place.ensures.fault)
    w e t)

pub loop-word-preserved : goal.loop-word-preserved
loop-word-preserved c =
    let some = some-text c.args.text.now c.is_empty.result c.is_empty.ensures c.if-is_empty.false in
    let y = YieldsList-at c.into_iter-word-iterator.ensures.into_iter_gives
    (YieldsList-from_str_split 32 c.args.text.now (lit< tt) c.split-word-items.ensures.text c.split-word-items.ensures.has_more c.split-word-items.ensures.pattern) in
    let t = YieldsList-turn y c.loop-word.yielded _ c.loop-word.yielded_by _ _ c.in-Some.word c.in-Some.is c.next.ensures.steps in
    let n = next-word c.args.text.now (length c.loop-word.yielded) c.in-Some.word.now some t in
    let Q : ℕ → Type 0 = λ k. IsReadSoFar c.args.event (spaced_words c.args.text.now) k c.read_next.new.scramble c.in_ok-place.place in
    let r = read-more c.args.event (spaced_words c.args.text.now) (length c.loop-word.yielded) c.loop-word.scramble c.read_next.new.scramble c.loop-word.place c.in_ok-place.place c.in-Some.word.now
    c.loop-word.invariant n.0 n.1 c.in_ok-place.ensures.read in
    subst Q (sym (length_push c.loop-word.yielded c.in-Some.word)) r

pub returns-clause-read : goal.returns-clause-read
returns-clause-read c =
    let some = some-text c.args.text.now c.is_empty.result c.is_empty.ensures c.if-is_empty.false in
    let y = YieldsList-at c.into_iter-word-iterator.ensures.into_iter_gives
    (YieldsList-from_str_split 32 c.args.text.now (lit< tt) c.split-word-items.ensures.text c.split-word-items.ensures.has_more c.split-word-items.ensures.pattern) in
    let t = YieldsList-end y c.loop-word.yielded _ c.loop-word.yielded_by _ _ c.in-None.is c.next.ensures.steps in
    let Q : ℕ → Type 0 = λ k. IsReadSoFar c.args.event (spaced_words c.args.text.now) k c.loop-word.scramble c.loop-word.place in
    let r = subst Q (t.1 ∙ sym (ap length (words_of-some c.args.text.now some))) c.loop-word.invariant in
    (c.loop-word.invariant.of_event, read-all c.args.event c.args.text.now c.loop-word.scramble c.loop-word.place some r)

pub returns-clause-each_text : goal.returns-clause-each_text
returns-clause-each_text c = λ s w e t.
    let read = returns-clause-read c in
    same-result c.loop-word.scramble s c.loop-word.invariant.valid w (e ∙ sym read.0) (t ∙ sym read.1)
