use Rattle.std.proofs.Common.{length}
use Rattle.scr_search.specs.Near.{IsInSet}
use Rattle.scr_search.specs.TurnSets.{turns_in}
use Rattle.scr_search.proofs.NearLaws.{AreLookedAt}
use Rattle.scr_search.proofs.search_tables.SearchTables.turns_behind.Given as goal

abbrev pub decreases-loop-place : goal.decreases-loop-place
decreases-loop-place g l = length (turns_in l.others.bits)

abbrev pub invariant-loop-place : goal.invariant-loop-place
invariant-loop-place g l =
    AreLookedAt g.P.Part.views l.at (IsInSet l.self.near) l.initial.others.bits l.others.bits l.into.bits
