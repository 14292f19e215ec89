use Rattle.std.proofs.Common.{◌∙◌, sym}
use Rattle.scr_search.specs.Views.{one_line, other_line}
use Rattle.scr_search.proofs.BuiltLaws.{IfOk-outlooks}
use Rattle.scr_search.proofs.search_tables.SearchTables.outlooks.Goals as goal

pub returns-then-of_one-clause-one : goal.returns-then-of_one-clause-one
returns-then-of_one-clause-one g c = λ is.
    let v = g.P.Part.views in
    let are = c.extent-extent.ensures.views in
    let self = c.args.self.now in
    IfOk-outlooks (λ all. all.items) (one_line v) c.extent-extent.result.now _ c.extent-extent.ensures.same self.one_slice _ self.one_is.distances.measures.stays_below
    (c.beside-moves.ensures.shows v.one.coordinate v.middle.coordinate (are.middle.turns ∙ sym are.one.turns) self.one_shown self.middle_shown)
    c.outlooks.result c.outlooks.ensures

pub returns-else-of_one-clause-other : goal.returns-else-of_one-clause-other
returns-else-of_one-clause-other g c = λ is.
    let v = g.P.Part.views in
    let are = c.extent-extent.ensures.views in
    let self = c.args.self.now in
    IfOk-outlooks (λ all. all.items) (other_line v) c.extent-extent.result.now _ c.extent-extent.ensures.same self.other_slice _ self.other_is.distances.measures.stays_below
    (c.beside-moves-else-of_one.ensures.shows v.other.coordinate v.middle.coordinate (are.middle.turns ∙ sym are.other.turns) self.other_shown self.middle_shown)
    c.outlooks-else-of_one.result c.outlooks-else-of_one.ensures
