use Rattle.scr_table.specs.Causes.{IsCause}
use Rattle.scr_table.proofs.LineLaws.{IfErr-handed}
use Rattle.scr_table.proofs.SameTables.{IsCause-same, Measures-same}
use Rattle.scr_search.proofs.BuiltLaws.{AreOutlooks-none}
use Rattle.scr_search.proofs.pruning.PruningTable.build.Goals as goal

pub returns-in_err-distances-clause-cause : goal.returns-in_err-distances-clause-cause
returns-in_err-distances-clause-cause g c = λ shown same.
    let fault = c.in_err-distances.field-0.0 in
    IfErr-handed (IsCause c.args.reach.0 shown c.args.reach.1) fault c.from_residual.result c.from_residual.ensures.1
    (IsCause-same shown (g.C.Coord.coordinate c.args.coord.now) c.build.ensures.stays_below same c.args.reach.0 c.args.reach.1 fault c.in_err-distances.ensures.cause)

pub returns-clause-table : goal.returns-clause-table
returns-clause-table g c = λ shown same.
    let built = c.in_ok-distances.ensures in
    record {
      distances = record {
        name = built.named;
        bound = built.bounded;
        measures = Measures-same shown (g.C.Coord.coordinate c.args.coord.now) c.build.ensures.stays_below same c.in_ok-distances.distances built.measures;
      };
      outlooks = AreOutlooks-none shown c.in_ok-distances.distances.distances c.new.result.items c.new.ensures.items;
    }
