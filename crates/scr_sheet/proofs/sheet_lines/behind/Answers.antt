use Rattle.std.proofs.Common.{sym, ◌∙◌}
use Rattle.std.proofs.lemmas.Slice.Eq.{bytes_eq-Decides}
use Rattle.scr_sheet.proofs.SheetLineLaws.{label_before, no_label_before}
use Rattle.scr_sheet.proofs.sheet_lines.behind.Goals as goal

pub returns-then-eq : goal.returns-then-eq
returns-then-eq c =
    label_before c.args.label.now c.args.text.now c.in_ok-front.front.now c.in_ok-front.behind.now c.in_ok-front.ensures.cases
    ((bytes_eq-Decides c.in_ok-front.front.now c.as_bytes.result.now).0 (sym c.eq.ensures ∙ c.if-eq.true) ∙ c.as_bytes.ensures.value)

pub returns-else-eq : goal.returns-else-eq
returns-else-eq c = λ behind is.
    no_label_before c.args.label.now c.args.text.now c.in_ok-front.front.now c.in_ok-front.behind.now behind c.in_ok-front.ensures.cases is
    (λ same. let yes = (bytes_eq-Decides c.in_ok-front.front.now c.as_bytes.result.now).1 (same ∙ sym c.as_bytes.ensures.value) in cc)
