use Rattle.std.proofs.Common.{◌≡◌, suc, ◌+◌, Some, ◌++◌, ap, ◌∙◌, arith}
use Rattle.std.specs.Prelude.{codes}
use Rattle.std.specs.Fmt.{decimal}
use Rattle.scr_round.proofs.LineLaws.{labels_from-own, labels_from-extra}
use Rattle.scr_round.proofs.layout.label.Goals as goal

pub returns-then-place-own : goal.returns-then-place-own
returns-then-place-own c =
    let number : 1 + c.args.place ≡ c.args.place + 1 = omega arith in
    rw (
      c.push_str-then-place-own.ensures.bytes,
      c.push_str.ensures.bytes,
      c.new-label.ensures,
      c.as_str.ensures.value,
      c.decimal.ensures.bytes,
    )
    (labels_from-own 1 c.args.own c.args.place c.if-place-own.true ∙ ap (λ n. Some (decimal n ++ codes ". ")) number)

pub returns-then-place-own-2 : goal.returns-then-place-own-2
returns-then-place-own-2 c =
    rw (c.push_str-then-place-own-2.ensures.bytes, c.new-label.ensures, c.if-place-own-2.true) (labels_from-extra 1 c.args.own).0

pub returns-else-place-own-2 : goal.returns-else-place-own-2
returns-else-place-own-2 c =
    let last : c.args.place ≡ suc c.args.own = omega (arith, c.requires.place, c.if-place-own.false, c.if-place-own-2.false) in
    rw (c.push_str-else-place-own-2.ensures.bytes, c.new-label.ensures, last) (labels_from-extra 1 c.args.own).1
