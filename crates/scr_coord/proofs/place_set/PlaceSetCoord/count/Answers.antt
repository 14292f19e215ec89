use Rattle.scr_coord.proofs.ListViews.{StaysBelow-place_sets}
use Rattle.scr_coord.proofs.place_set.PlaceSetCoord.count.Goals as goal

pub returns-clause-stays_below : goal.returns-clause-stays_below
returns-clause-stays_below g c =
    let me = c.args.self.now in
    StaysBelow-place_sets g.row.N g.row.K me.home me.turns.now me.set me.valid.each
