use Rattle.scr_table.proofs.MovesLaws.{Needs-turns, NeedsTurns-needs}
use Rattle.scr_laws.proofs.table.minima.Goals as goal

pub returns : goal.returns
returns g c = λ s least.
    let m = g.M.Moves.moves c.args.moves.now in (Needs-turns m s least, NeedsTurns-needs m s least)
