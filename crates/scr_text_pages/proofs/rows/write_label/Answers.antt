use Rattle.std.proofs.Common.{string_bytes, ap, ◌∙◌, arith, ◌≤◌, length}
use Rattle.scr_text_pages.proofs.RowLemmas.{label-short, label-long}
use Rattle.scr_text_pages.proofs.rows.write_label.Goals as goal
use Rattle.scr_text_pages.proofs.rows.write_label.Goals.{then-label-lt3+in_ok-push_str, else-label-lt3}

pub returns : goal.returns
returns c = elim c.if-label-lt3.branch [
  | then-label-lt3+in_ok-push_str w ↦
      label-short c.args.label.now (string_bytes c.args.text.now) (string_bytes c.if-label-lt3.text) (string_bytes c.push_str-2.new.self) c.requires
      (ap (λ text. string_bytes text) w.text-is ∙ w.in_ok-push_str.ensures.bytes) c.in_ok-push_str-2.ensures.bytes
  | else-label-lt3 w ↦
      let long : 3 ≤ length c.args.label.now = omega (arith, w.if-label-lt3.false) in
      label-long c.args.label.now (string_bytes c.args.text.now) (string_bytes c.if-label-lt3.text) (string_bytes c.push_str-2.new.self) c.requires long
      (ap (λ text. string_bytes text) w.text-is) c.in_ok-push_str-2.ensures.bytes
]
