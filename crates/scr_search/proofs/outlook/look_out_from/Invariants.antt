use Rattle.std.proofs.Common.{ℕ, ◌+◌, ◌<◌, length, get_or}
use Rattle.scr_search.specs.Outlooks.{IsOutlook}
use Rattle.scr_search.specs.declared.outlook.Outlook.{Outlook}
use Rattle.scr_search.proofs.outlook.look_out_from.Given as goal

abbrev pub invariant-loop-first : goal.invariant-loop-first
invariant-loop-first g l =
    (j : ℕ) (d : Outlook) → j < l.first → j < length l.into → IsOutlook (g.C.Coord.coordinate l.coord) l.distances (l.start + j) (get_or l.into j d)

abbrev pub invariant-loop-k : goal.invariant-loop-k
invariant-loop-k g l =
    (j : ℕ) (d : Outlook) → j < l.first + l.k → IsOutlook (g.C.Coord.coordinate l.coord) l.distances (l.start + j) (get_or l.into j d)
