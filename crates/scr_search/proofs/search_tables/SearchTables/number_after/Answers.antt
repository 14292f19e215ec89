use Rattle.std.proofs.Common.{◌≡◌, ◌%◌, ◌/◌, sym, ◌∙◌}
use Rattle.scr_positions.specs.Moves.{moves_coordinate}
use Rattle.scr_search.proofs.ViewLaws.{low_part, low-made, low-one, low-other, number-low, seen-turned, shown-turned}
use Rattle.scr_search.proofs.search_tables.SearchTables.number_after.Goals as goal

pub returns : goal.returns
returns g c = λ cube turned seen number by.
    let v = g.P.Part.views in
    let e = c.extent-extent.result.now in
    let are = c.extent-extent.ensures.views in
    let self = c.args.self.now in
    let place = c.args.place in
    let low : c.args.number ≡ low_part v e are cube seen = number ∙ number-low v e are cube seen in
    let one = c.target-one.ensures (v.one.number turned)
    (shown-turned v v.one are.one (moves_coordinate self.one) self.one_shown cube turned (c.args.number % e.ones) place seen
    (low-one v e are cube seen c.args.number low) c.requires by) in
    let other = c.target-other.ensures (v.other.number turned)
    (shown-turned v v.other are.other (moves_coordinate self.other) self.other_shown cube turned (c.args.number / e.ones) place seen
    (low-other v e are cube seen c.args.number low) c.requires by) in
    let kept = seen-turned v v.one are.one cube turned place seen c.requires by in
    low-made v e are turned kept c.target-one.result c.target-other.result one other ∙ sym (number-low v e are turned kept)
