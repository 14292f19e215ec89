use Rattle.std.proofs.lemmas.Result.{IfOk-weaker}
use Rattle.scr_positions.proofs.SearchLaws.{ShowsSame-through}
use Rattle.scr_positions.specs.Products.{product_coordinate}
use Rattle.scr_small.specs.NumberedPuzzles.{state_coordinate}
use Rattle.scr_small.specs.StateParts.{low_part, high_part}
use Rattle.scr_small.proofs.PartLaws.{StaysBelow-high}
use Rattle.scr_small.proofs.ShownByParts.{ShowsSame-parts}
use Rattle.scr_small.proofs.parts.PartsLineLine.moves.Goals as goal

pub invariant_of-high-clause-stays : goal.invariant_of-high-clause-stays
invariant_of-high-clause-stays g c =
    let table = g.P.OneTable.TABLE in
    let l = c.numbers-numbers.ensures.solved in
    StaysBelow-high g.P.OneTable.shown l.lawful table.low table.high l.by_parts

pub returns : goal.returns
returns g c =
    let p = g.P.OneTable in
    let l = c.numbers-numbers.ensures.solved in
    IfOk-weaker c.of_moves.result _ _
    (λ moves shows.
    ShowsSame-through (state_coordinate p.shown) (product_coordinate (low_part p.shown p.TABLE.low) (high_part p.shown p.TABLE.low p.TABLE.high)) _
    (ShowsSame-parts p.shown l.lawful p.TABLE.low p.TABLE.high l.by_parts) shows) c.of_moves.ensures
