use Rattle.scr_small.proofs.PuzzleLaws.{IsReached-iff, Needs-iff, scrambled, IsScrambleOf-unique}
use Rattle.scr_solver_laws.proofs.small.measured.Goals as goal

pub returns-clause-reached : goal.returns-clause-reached
returns-clause-reached g c = IsReached-iff g.P.OneTable.shown c.numbers-numbers.ensures.solved.lawful

pub returns-clause-needs : goal.returns-clause-needs
returns-clause-needs g c =
    λ table m s least valid. Needs-iff g.P.OneTable.shown c.numbers-numbers.ensures.solved.lawful table m s least valid

pub returns-clause-scrambled : goal.returns-clause-scrambled
returns-clause-scrambled g c =
    λ table m s valid. scrambled g.P.OneTable.shown c.numbers-numbers.ensures.solved.lawful table m s valid

pub returns-clause-one_scramble : goal.returns-clause-one_scramble
returns-clause-one_scramble g c = IsScrambleOf-unique g.P.OneTable.shown c.numbers-numbers.ensures.solved.lawful
