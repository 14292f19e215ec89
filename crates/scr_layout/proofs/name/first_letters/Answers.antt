use Rattle.std.proofs.Common.{◌++◌, ap, sym, ◌∙◌, arith, append-nil, string_bytes, encode_utf8_all}
use Rattle.std.proofs.lemmas.Iterator.{YieldsList-from_chars}
use Rattle.std.proofs.lemmas.Iterator.Consumers.{YieldsList-turn, YieldsList-end}
use Rattle.scr_layout.proofs.NameLemmas.{first-full, first-next, first-end}
use Rattle.scr_layout.proofs.name.first_letters.Goals as goal

pub returns-then-left-wide : goal.returns-then-left-wide
returns-then-left-wide c =
    let at = YieldsList-turn (YieldsList-from_chars c.args.name.now c.utf8.name cc) c.loop-letter.yielded _ c.loop-letter.yielded_by _ _ c.in-Some.letter c.in-Some.is c.next.ensures.steps in
    let text = string_bytes c.loop-letter.text in
    sym (append-nil text)
    ∙ sym (ap (λ r. text ++ encode_utf8_all r) (first-full c.loop-letter.left _ _ _ at (omega (arith, c.letter_width-wide.ensures))))
    ∙ c.loop-letter.invariant

pub loop-letter-preserved : goal.loop-letter-preserved
loop-letter-preserved c =
    let at = YieldsList-turn (YieldsList-from_chars c.args.name.now c.utf8.name cc) c.loop-letter.yielded _ c.loop-letter.yielded_by _ _ c.in-Some.letter c.in-Some.is c.next.ensures.steps in
    first-next c.loop-letter.left c.letter_width-wide.result _ c.loop-letter.yielded c.in-Some.letter (string_bytes c.loop-letter.text) (string_bytes c.push.new.self)
    at c.letter_width-wide.ensures (omega arith) c.in_ok-push.ensures.bytes ∙ c.loop-letter.invariant

pub returns : goal.returns
returns c =
    let at = YieldsList-end (YieldsList-from_chars c.args.name.now c.utf8.name cc) c.loop-letter.yielded _ c.loop-letter.yielded_by _ _ c.in-None.is c.next.ensures.steps in
    let text = string_bytes c.loop-letter.text in
    sym (append-nil text) ∙ sym (ap (λ r. text ++ encode_utf8_all r) (first-end c.loop-letter.left _ _ at.1)) ∙ c.loop-letter.invariant
