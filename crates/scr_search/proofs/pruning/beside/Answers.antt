use Rattle.std.proofs.Common.{sym, subst, ap, ◌∙◌}
use Rattle.scr_positions.specs.Moves.{moves_coordinate}
use Rattle.scr_positions.specs.SearchSpaces.{ShowsSame}
use Rattle.scr_search.specs.Views.{beside}
use Rattle.scr_search.proofs.BuiltLaws.{ShowsSame-beside}
use Rattle.scr_search.proofs.pruning.beside.Goals as goal

pub returns-then-middle_first-clause-shows : goal.returns-then-middle_first-clause-shows
returns-then-middle_first-clause-shows c = λ l h turns f g.
    let b = c.args.middle_first in
    let low = moves_coordinate c.args.own.now in
    let high = moves_coordinate c.args.middle.now in
    subst (ShowsSame (beside b l h)) (ap (λ x. beside x low high) c.if-middle_first.true ∙ sym c.new.ensures) (ShowsSame-beside b l h low high turns f g)

pub returns-else-middle_first-clause-shows : goal.returns-else-middle_first-clause-shows
returns-else-middle_first-clause-shows c = λ l h turns f g.
    let b = c.args.middle_first in
    let low = moves_coordinate c.args.own.now in
    let high = moves_coordinate c.args.middle.now in
    subst (ShowsSame (beside b l h)) (ap (λ x. beside x low high) c.if-middle_first.false ∙ sym c.new-else-middle_first.ensures) (ShowsSame-beside b l h low high turns f g)
