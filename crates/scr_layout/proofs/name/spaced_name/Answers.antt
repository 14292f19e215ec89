use Rattle.std.proofs.Common.{◌++◌, ap, sym, refl, ◌∙◌, append-nil, chars, string_bytes, encode_utf8_all}
use Rattle.std.proofs.lemmas.Iterator.{YieldsList-from_chars}
use Rattle.std.proofs.lemmas.Iterator.Consumers.{YieldsList-turn, YieldsList-end}
use Rattle.scr_layout.specs.Name.{spaced}
use Rattle.scr_layout.proofs.NameLemmas.{ahead-all, ahead-blank, ahead-letter, ahead-end}
use Rattle.scr_layout.proofs.name.spaced_name.Goals as goal

pub loop-letter-init : goal.loop-letter-init
loop-letter-init c = record {
  waits = λ is. is;
  text =
      ap (λ r. string_bytes c.new-text.result ++ encode_utf8_all r) (ahead-all (chars c.args.name.now))
      ∙ ap (λ t. t ++ encode_utf8_all (spaced (chars c.args.name.now))) c.new-text.ensures.bytes;
}

pub loop-letter-preserved-then-is_blank : goal.loop-letter-preserved-then-is_blank
loop-letter-preserved-then-is_blank c =
    let at = YieldsList-turn (YieldsList-from_chars c.args.name.now c.utf8.name cc) c.loop-letter.yielded _ c.loop-letter.yielded_by _ _ c.in-Some.letter c.in-Some.is c.next.ensures.steps in
    record {
      waits = λ is. is;
      text =
          ap (λ r. string_bytes c.loop-letter.text ++ encode_utf8_all r)
          (ahead-blank c.loop-letter.begun c.loop-letter.waits _ c.loop-letter.yielded c.in-Some.letter at
          (sym c.is_blank.ensures ∙ c.if-is_blank.true) c.loop-letter.invariant.waits)
          ∙ c.loop-letter.invariant.text;
    }

pub loop-letter-preserved : goal.loop-letter-preserved
loop-letter-preserved c =
    let at = YieldsList-turn (YieldsList-from_chars c.args.name.now c.utf8.name cc) c.loop-letter.yielded _ c.loop-letter.yielded_by _ _ c.in-Some.letter c.in-Some.is c.next.ensures.steps in
    record {
      waits = λ _. refl;
      text =
          ahead-letter c.loop-letter.begun c.loop-letter.waits _ c.loop-letter.yielded c.in-Some.letter (string_bytes c.loop-letter.text)
          (string_bytes c.push_letter.new.text) at (sym c.is_blank.ensures ∙ c.if-is_blank.false) c.loop-letter.invariant.waits
          c.in_ok-push_letter.ensures
          ∙ c.loop-letter.invariant.text;
    }

pub returns : goal.returns
returns c =
    let at = YieldsList-end (YieldsList-from_chars c.args.name.now c.utf8.name cc) c.loop-letter.yielded _ c.loop-letter.yielded_by _ _ c.in-None.is c.next.ensures.steps in
    let text = string_bytes c.loop-letter.text in
    sym (append-nil text)
    ∙ sym (ap (λ r. text ++ encode_utf8_all r) (ahead-end c.loop-letter.begun c.loop-letter.waits _ _ at.1))
    ∙ c.loop-letter.invariant.text
