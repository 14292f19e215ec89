use Rattle.std.proofs.Common.{◌≡◌, ℕ, ◌+◌, ◌<◌, ◌≤◌, length, get_or}
use Rattle.scr_search.specs.Outlooks.{AreFound}
use Rattle.scr_search.specs.declared.outlook.Found.{Found}
use Rattle.scr_search.proofs.outlook.enter_turn.Given as goal

abbrev pub invariant-loop-k : goal.invariant-loop-k
invariant-loop-k g l =
    (length l.found ≡ 1024)
    × ((j : ℕ) (d : Found) → j < l.k → AreFound (g.C.Coord.coordinate l.coord) l.distances (l.start + j) (l.turn + 1) (get_or l.found j d))
    × ((j : ℕ) (d : Found) → l.k ≤ j → j < length l.seen
    → AreFound (g.C.Coord.coordinate l.coord) l.distances (l.start + j) l.turn (get_or l.found j d))
