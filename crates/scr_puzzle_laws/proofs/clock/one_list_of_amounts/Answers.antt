use Rattle.std.proofs.Common.{sym, ◌∙◌}
use Rattle.scr_clock.proofs.HeldLaws.{given, clock_after-written}
use Rattle.scr_clock.proofs.AmountLaws.{amounts_of, IsClock-amounts_of, amounts_of-give, amounts_of-only, IsScrambleOf-one}
use Rattle.scr_puzzle_laws.proofs.clock.one_list_of_amounts.Goals as goal

pub returns-clause-some : goal.returns-clause-some
returns-clause-some c = λ dials clock. (amounts_of dials, IsClock-amounts_of dials, amounts_of-give dials clock)

pub returns-clause-no_other : goal.returns-clause-no_other
returns-clause-no_other c = λ some other h k same.
    let there = clock_after-written other k in
    amounts_of-only some (given other) h (same ∙ there) ∙ sym (amounts_of-only other (given other) k there)

pub returns-clause-one_scramble : goal.returns-clause-one_scramble
returns-clause-one_scramble c = IsScrambleOf-one
