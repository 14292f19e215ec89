use Rattle.std.proofs.Common.{sym, ap, subst}
use Rattle.scr_notation.specs.Written.{Written}
use Rattle.scr_sq1tables.specs.Letters.{stage_of}
use Rattle.scr_sq1solve.specs.Walks.{IsWithinCosts}
use Rattle.scr_sq1solve.proofs.TotalLaws.{Costs-spelled}
use Rattle.scr_sq1solve.proofs.walks.walked.Goals as goal

pub returns-clause-costs : goal.returns-clause-costs
returns-clause-costs c =
    let letters = c.args.letters in
    subst (IsWithinCosts letters) (ap (λ (w : Written). w.turns) (sym c.word_of-turns.ensures)) (Costs-spelled letters c.args.numbers.now (stage_of letters).bound c.requires.few)
