use Rattle.std.proofs.Common.{ap, sym, ◌∙◌, subst, chars, nat_le, string_bytes, encode_utf8_all, ◌-◌}
use Rattle.std.proofs.lemmas.Str.{IsUtf8-string_bytes}
use Rattle.scr_layout.specs.Shown.{HasNoControl}
use Rattle.scr_layout.specs.Name.{width, first_wide}
use Rattle.scr_layout.proofs.NameLemmas.{whole, cut_off, in_one_line}
use Rattle.scr_layout.proofs.name.fitting_name.Goals as goal

pub returns-then-is_within-clause-value : goal.returns-then-is_within-clause-value
returns-then-is_within-clause-value c =
    whole c.args.most c.args.name.now (string_bytes c.in_ok-shown.shown) c.is_within.result (IsUtf8-string_bytes c.in_ok-shown.shown)
    c.in_ok-shown.ensures (c.is_within.ensures ∙ ap (λ text. nat_le (width (chars text)) c.args.most) c.as_str.ensures.value) c.if-is_within.true

pub returns-then-is_within-clause-line : goal.returns-then-is_within-clause-line
returns-then-is_within-clause-line c =
    subst HasNoControl (sym (returns-then-is_within-clause-value c)) (in_one_line c.args.most c.args.name.now)

pub returns-clause-value : goal.returns-clause-value
returns-clause-value c =
    cut_off c.args.most c.args.name.now (string_bytes c.in_ok-shown.shown) (string_bytes c.in_ok-cut.cut) (string_bytes c.push_str.new.self)
    c.is_within.result (IsUtf8-string_bytes c.in_ok-shown.shown) c.in_ok-shown.ensures
    (c.is_within.ensures ∙ ap (λ text. nat_le (width (chars text)) c.args.most) c.as_str.ensures.value) c.if-is_within.false
    (c.in_ok-cut.ensures ∙ ap (λ text. encode_utf8_all (first_wide (c.args.most - 3) (chars text))) c.as_str-2.ensures.value)
    c.in_ok-push_str.ensures.bytes

pub returns-clause-line : goal.returns-clause-line
returns-clause-line c = subst HasNoControl (sym (returns-clause-value c)) (in_one_line c.args.most c.args.name.now)
