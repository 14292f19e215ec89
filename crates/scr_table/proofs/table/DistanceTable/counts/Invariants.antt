use Rattle.std.proofs.Common.{◌≡◌, ℕ, ◌+◌, ◌<◌, eqb, length, get_or, take}
use Rattle.std.specs.Prelude.{count_by}
use Rattle.scr_table.specs.declared.table.TheConstants.{GREATEST_BOUND}
use Rattle.scr_table.proofs.table.DistanceTable.counts.Given as goal

abbrev pub invariant-loop-position : goal.invariant-loop-position
invariant-loop-position l =
    record {
      numbers : length l.counts ≡ GREATEST_BOUND + 1;
      counted : (d : ℕ) → d < GREATEST_BOUND + 1 → get_or l.counts d 0 ≡ count_by (λ entry. eqb entry d) (take l.position l.self.distances);
    }
