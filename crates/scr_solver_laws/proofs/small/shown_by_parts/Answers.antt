use Rattle.scr_small.proofs.PuzzleLaws.{StaysBelow-states}
use Rattle.scr_small.proofs.ShownByParts.{ShowsSame-parts}
use Rattle.scr_solver_laws.proofs.small.shown_by_parts.Goals as goal

pub returns-clause-numbered : goal.returns-clause-numbered
returns-clause-numbered g c = c.numbers-numbers.ensures.solved.lawful

pub returns-clause-stays : goal.returns-clause-stays
returns-clause-stays g c = StaysBelow-states g.P.OneTable.shown c.numbers-numbers.ensures.solved.lawful

pub returns-clause-parts : goal.returns-clause-parts
returns-clause-parts g c = c.numbers-numbers.ensures.solved.by_parts

pub returns-clause-shown : goal.returns-clause-shown
returns-clause-shown g c =
    let p = g.P.OneTable in
    let l = c.numbers-numbers.ensures.solved in
    ShowsSame-parts p.shown l.lawful p.TABLE.low p.TABLE.high l.by_parts
