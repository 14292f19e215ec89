use Rattle.scr_positions.specs.Moves.{moves_coordinate}
use Rattle.scr_search.proofs.ViewLaws.{seen-turned, shown-turned}
use Rattle.scr_search.proofs.search_tables.SearchTables.after.Goals as goal

pub returns : goal.returns
returns g c = λ cube turned shows by.
    let v = g.P.Part.views in
    let are = c.requires.views in
    let self = c.args.self.now in
    let at = c.args.at in
    let place = c.args.place in
    record {
      seen = seen-turned v v.one are.one cube turned place shows.seen c.requires.place by;
      one = c.target.ensures (v.one.number turned)
          (shown-turned v v.one are.one (moves_coordinate self.one) self.one_shown cube turned at.one place shows.seen shows.one c.requires.place by);
      other = c.target-2.ensures (v.other.number turned)
          (shown-turned v v.other are.other (moves_coordinate self.other) self.other_shown cube turned at.other place shows.seen shows.other c.requires.place by);
      middle = c.target-3.ensures (v.middle.number turned)
          (shown-turned v v.middle are.middle (moves_coordinate self.middle) self.middle_shown cube turned at.middle place shows.seen shows.middle c.requires.place by);
    }
