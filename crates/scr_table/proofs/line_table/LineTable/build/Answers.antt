use Rattle.std.proofs.Common.{◌∙◌, subst}
use Rattle.std.proofs.lemmas.Result.{err_from_is_err_and}
use Rattle.scr_table.specs.Causes.{IsCause}
use Rattle.scr_table.proofs.LineLaws.{no_gap}
use Rattle.scr_table.proofs.SameTables.{Measures-same, IsCause-same}
use Rattle.scr_table.proofs.line_table.LineTable.build.Goals as goal

pub returns-in_err-distances-clause-cause : goal.returns-in_err-distances-clause-cause
returns-in_err-distances-clause-cause g c =
    let line = g.L.Line.line in
    let shown = g.L.Moves.Coord.coordinate c.in_ok-moves.moves in
    let p = err_from_is_err_and c.from_residual-in_err-distances.result c.from_residual-in_err-distances.ensures.1 in
    let fault = c.in_err-distances.field-0.0 in
    rw (p.1, p.2) (subst (λ name. IsCause name line.coordinate line.bound fault) c.reach-name.ensures.name
    (subst (λ bound. IsCause c.reach-name.result.0 line.coordinate bound fault) c.reach-name.ensures.bound
    (IsCause-same line.coordinate shown c.build.ensures.stays_below c.in_ok-moves.ensures
    c.reach-name.result.0 c.reach-name.result.1 fault c.in_err-distances.ensures.cause)))

pub invariant_of-result : goal.invariant_of-result
invariant_of-result g c =
    let line = g.L.Line.line in
    let shown = g.L.Moves.Coord.coordinate c.in_ok-moves.moves in
    record {
      shown = c.in_ok-moves.ensures;
      few_turns = c.reach-name.ensures.few_turns;
      is = record {
        name = c.in_ok-distances.ensures.named ∙ c.reach-name.ensures.name;
        bound = c.in_ok-distances.ensures.bounded ∙ c.reach-name.ensures.bound;
        measures = Measures-same line.coordinate shown c.build.ensures.stays_below
            c.in_ok-moves.ensures c.in_ok-distances.distances c.in_ok-distances.ensures.measures;
      };
    }

pub returns-clause-table : goal.returns-clause-table
returns-clause-table g c = (invariant_of-result g c).is

pub returns-clause-no_gap : goal.returns-clause-no_gap
returns-clause-no_gap g c = no_gap g.L.Line.line c.in_ok-distances.distances (invariant_of-result g c).is
