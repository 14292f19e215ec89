use Rattle.std.proofs.Common.{string_bytes, ◌++◌, ap, ◌∙◌, arith}
use Rattle.scr_text_pages.proofs.HeadLemmas.{plain-number, plain-nothing}
use Rattle.scr_text_pages.proofs.heads.write_number.Goals as goal

pub returns-then-page-le1 : goal.returns-then-page-le1
returns-then-page-le1 c = plain-nothing (string_bytes c.args.text.now)

pub returns : goal.returns
returns c =
    plain-number c.args.page.number c.args.page.count (string_bytes c.args.text.now) (string_bytes c.push_str.new.self) (string_bytes c.push_str-2.new.self)
    (string_bytes c.push_str-3.new.self) (string_bytes c.push_str-4.new.self) (omega arith) (omega arith)
    c.in_ok-push_str.ensures.bytes
    (c.in_ok-push_str-2.ensures.bytes ∙ ap (λ t. string_bytes c.push_str.new.self ++ t) (c.as_str.ensures.value ∙ c.decimal.ensures.bytes))
    c.in_ok-push_str-3.ensures.bytes
    (c.in_ok-push_str-4.ensures.bytes ∙ ap (λ t. string_bytes c.push_str-3.new.self ++ t) (c.as_str-2.ensures.value ∙ c.decimal-2.ensures.bytes))
