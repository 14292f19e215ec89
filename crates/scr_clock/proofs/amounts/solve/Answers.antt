use Rattle.std.proofs.Common.{◌≡◌, sym, ◌∙◌, arith}
use Rattle.scr_clock.proofs.AmountLaws.{amounts_of, amounts_by_rows, amounts_of-give, amounts_of-only}
use Rattle.scr_clock.proofs.amounts.solve.Goals as goal

-- they are the hours of the rows
hours_are : (c : goal.After-loop-turn) → c.loop-turn.amounts ≡ amounts_of c.args.clock.now
hours_are c = grind (arith, amounts_by_rows)

pub returns-clause-gives : goal.returns-clause-gives
returns-clause-gives c = rw (hours_are c) (amounts_of-give c.args.clock.now c.dials-dials.ensures.valid)

pub returns-clause-only : goal.returns-clause-only
returns-clause-only c = λ amounts h e. amounts_of-only amounts c.args.clock.now h e ∙ sym (hours_are c)
