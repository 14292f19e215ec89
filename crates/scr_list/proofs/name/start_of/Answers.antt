use Rattle.std.proofs.Common.{sym, arith}
use Rattle.std.proofs.lemmas.List.Sums.{prefix_len_is}
use Rattle.scr_text.specs.Lines.{is_blank}
use Rattle.scr_list.proofs.name.start_of.Goals as goal

pub returns-else-is_blank-clause-place : goal.returns-else-is_blank-clause-place
returns-else-is_blank-clause-place c = grind (arith, prefix_len_is)

pub returns-after-loop-start-clause-place : goal.returns-after-loop-start-clause-place
returns-after-loop-start-clause-place c =
    sym
    (prefix_len_is is_blank c.args.text.now c.loop-start.start 0 c.loop-start.invariant.within c.loop-start.invariant.blank
    (λ h. absurd (omega arith)))
