use Rattle.std.proofs.Common.{arith}
use Rattle.std.proofs.lemmas.List.Sums.{suffix_len_is}
use Rattle.scr_text.specs.Lines.{is_blank}
use Rattle.scr_list.proofs.name.end_of.Goals as goal

pub returns-else-is_blank-clause-place : goal.returns-else-is_blank-clause-place
returns-else-is_blank-clause-place c = grind (arith, suffix_len_is)

pub returns-after-loop-end-clause-place : goal.returns-after-loop-end-clause-place
returns-after-loop-end-clause-place c =
    let left =
    suffix_len_is is_blank c.args.text.now c.loop-end.end 0 c.loop-end.invariant.within c.loop-end.invariant.blank
    (λ h. absurd (omega arith))
    in
    let within = c.loop-end.invariant.within in
    omega (arith, left, within)
