use Rattle.scr_coord.proofs.ListViews.{StaysBelow-twists}
use Rattle.scr_coord.proofs.twists.TwistsCoord.count.Goals as goal

pub returns-clause-stays_below : goal.returns-clause-stays_below
returns-clause-stays_below g c =
    let me = c.args.self.now in
    StaysBelow-twists g.row.N g.row.BASE me.turns.now me.size.0 me.base.0 me.valid.each
