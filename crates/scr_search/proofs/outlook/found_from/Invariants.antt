use Rattle.std.proofs.Common.{◌≡◌, ℕ, ◌+◌, ◌<◌, length, get_or}
use Rattle.scr_search.specs.Outlooks.{AreFound}
use Rattle.scr_search.specs.declared.outlook.Found.{Found}
use Rattle.scr_search.proofs.outlook.found_from.Given as goal

abbrev pub invariant-loop-turn : goal.invariant-loop-turn
invariant-loop-turn g l =
    (length l.found ≡ 1024) × ((k : ℕ) (d : Found) → k < l.size
    → AreFound (g.C.Coord.coordinate l.coord) l.distances (l.start + k) l.turn (get_or l.found k d))
