-- The built pruning tables, as callers see them.
use Rattle.std.specs.Prelude.{List, [], ◌∷◌}
use Rattle.scr_table.specs.Distances.{Distances}
use Rattle.scr_search.specs.declared.pruning.PruningTable.{PruningTable}

-- the distances of both tables of each part, in the order in which they are built
abbrev pub distances_of : PruningTable → PruningTable → PruningTable → PruningTable → List Distances
distances_of flips twists corners edges =
    flips.distances ∷ twists.distances ∷ corners.distances ∷ edges.distances ∷ []
