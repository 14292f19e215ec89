-- Goals that are marked one after another among entries that are not known yet.
use Rattle.std.proofs.Common.{◌≡◌, ℕ, ◌+◌, ◌<◌, ◌≤◌, true, false, List, length, length-set, get_or, get_or-set_other, inl, inr, sym, subst, arith}
use Rattle.std.proofs.Math.ListN.{set}
use Rattle.std.proofs.lemmas.Bool.{cases_lt}
use Rattle.scr_positions.specs.Coordinates.{Coordinate, HasNoGoal, IsNextGoal}
use Rattle.scr_positions.proofs.Written.{each_written}
use Rattle.scr_table.specs.Filled.{AreKnown, IsKnown}
use Rattle.scr_table.proofs.FilledLaws.{IsKnown-marked}

-- the goals below a position are marked, and nothing from there on is known yet
pub record AreMarkedBelow (c : Coordinate) (from : ℕ) (entries : List ℕ) : Type 0 where
  pub positions : length entries ≡ c.count
  pub inside : from ≤ c.count
  pub below : (p : ℕ) → p < from → IsKnown c 0 p (get_or entries p 0)
  pub unknown : (p : ℕ) → from ≤ p → p < c.count → get_or entries p 0 ≡ 255

-- where there is no goal before the next one, or behind the last, what is not known is as it is to be
skipped : (c : Coordinate) (from to : ℕ) (entries : List ℕ) → to ≤ c.count → AreMarkedBelow c from entries
    → HasNoGoal c from to → (p : ℕ) → p < to → IsKnown c 0 p (get_or entries p 0)
skipped c from to entries inside h none = λ p lt.
    elim (cases_lt p from) [
      | inl early ↦ h.below p early
      | inr late ↦ subst (IsKnown c 0 p) (sym (h.unknown p late (omega arith))) (IsKnown-marked c p false (none p late lt))
    ]

pub AreMarkedBelow-next : (c : Coordinate) (from goal : ℕ) (entries : List ℕ) → AreMarkedBelow c from entries
    → IsNextGoal c from goal → AreMarkedBelow c (goal + 1) (set entries goal 0)
AreMarkedBelow-next c from goal entries h next =
    let inside : goal < length entries = omega (arith, next.below, h.positions) in
    grind (
      arith,
      length-set entries goal 0,
      each_written (IsKnown c 0) entries goal 0 inside (skipped c from goal entries (omega (arith, next.below)) h next.first) (IsKnown-marked c goal true next.goal),
      get_or-set_other,
    )

pub AreKnown-marked : (c : Coordinate) (from : ℕ) (entries : List ℕ) → AreMarkedBelow c from entries
    → HasNoGoal c from c.count → AreKnown c 0 entries
AreKnown-marked c from entries h none = record { positions = h.positions; each = skipped c from c.count entries (omega arith) h none }
