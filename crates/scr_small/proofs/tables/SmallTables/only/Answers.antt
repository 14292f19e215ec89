use Rattle.std.proofs.Common.{refl}
use Rattle.scr_small.specs.Puzzles.{corners_line, pyramid_line, skewb_line}
use Rattle.scr_small.proofs.BuiltTables.{no_gaps-built}
use Rattle.scr_small.proofs.tables.SmallTables.only.Goals as goal

pub returns-in-Corners-clause-built : goal.returns-in-Corners-clause-built
returns-in-Corners-clause-built c =
    rw (← c.self.view_is, c.in-Corners.is)
    (record { line = corners_line; of_event = refl; table = c.distances.ensures.table })

pub returns-in-Pyramid-clause-built : goal.returns-in-Pyramid-clause-built
returns-in-Pyramid-clause-built c =
    rw (← c.self.view_is, c.in-Pyramid.is)
    (record { line = pyramid_line; of_event = refl; table = c.distances-in-Pyramid.ensures.table })

pub returns-in-Skewb-clause-built : goal.returns-in-Skewb-clause-built
returns-in-Skewb-clause-built c =
    rw (← c.self.view_is, c.in-Skewb.is)
    (record { line = skewb_line; of_event = refl; table = c.distances-in-Skewb.ensures.table })

pub returns-in-Corners-clause-whole : goal.returns-in-Corners-clause-whole
returns-in-Corners-clause-whole c = no_gaps-built c.args.self.now (returns-in-Corners-clause-built c)

pub returns-in-Pyramid-clause-whole : goal.returns-in-Pyramid-clause-whole
returns-in-Pyramid-clause-whole c = no_gaps-built c.args.self.now (returns-in-Pyramid-clause-built c)

pub returns-in-Skewb-clause-whole : goal.returns-in-Skewb-clause-whole
returns-in-Skewb-clause-whole c = no_gaps-built c.args.self.now (returns-in-Skewb-clause-built c)
