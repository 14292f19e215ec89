use Rattle.scr_coord.proofs.ListViews.{StaysBelow-pieces}
use Rattle.scr_coord.proofs.lists.ListsCoord.count.Goals as goal

pub returns-clause-stays_below : goal.returns-clause-stays_below
returns-clause-stays_below g c =
    let me = c.args.self.now in
    StaysBelow-pieces g.row.N me.turns.now me.valid.each
