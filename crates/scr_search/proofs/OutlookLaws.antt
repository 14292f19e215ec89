-- What the turns from a position come to, one after another.
use Rattle.std.proofs.Math.ListN.{set}
use Rattle.std.proofs.Common.{◌≡◌, ◌≢◌, get_or-set_other, get_or-set_same, ℕ, ◌+◌, ◌*◌, ◌/◌, ◌%◌, ◌^◌, ◌<◌, true, List, inl, inr, length, get_or, sym, subst, arith}
use Rattle.std.proofs.lemmas.Bool.{cases_eq}
use Rattle.scr_table.proofs.StepLaws.{moved-turn}
use Rattle.scr_positions.specs.Coordinates.{Coordinate}
use Rattle.scr_search.specs.TurnSets.{contains_turn}
use Rattle.scr_search.specs.Outlooks.{AreFound, IsOutlook}
use Rattle.scr_search.specs.declared.outlook.Found.{Found}
use Rattle.scr_search.specs.declared.outlook.Outlook.{Outlook}

-- an outlook of the turns that are found to lead nearer, and of those that lead no farther
pub IsOutlook-found : (c : Coordinate) (distances : List ℕ) (p : ℕ) (found : Found) (o : Outlook)
    → AreFound c distances p c.turns found → o.nearer ≡ found.nearer.bits + get_or distances p 0 * 262144
    → o.no_farther ≡ found.no_farther.bits → IsOutlook c distances p o
IsOutlook-found c distances p found o h near level =
    let far : o.nearer / 2 ^ 18 ≡ get_or distances p 0 = omega (arith, near, h.few_near) in
    let n : o.nearer % 2 ^ 18 ≡ found.nearer.bits = omega (arith, near, h.few_near) in
    let m : o.no_farther % 2 ^ 18 ≡ found.no_farther.bits = omega (arith, level, h.few_level) in
    record {
      far = far;
      near = record {
        kept = λ t q few to here lt. subst (λ bits. contains_turn bits t ≡ true) (sym n) (h.near t q (moved-turn c p t q to).0 to (omega (arith, far, lt)));
      };
      level = record {
        kept = λ t q few to here lt. subst (λ bits. contains_turn bits t ≡ true) (sym m) (h.level t q (moved-turn c p t q to).0 to (omega (arith, far, lt)));
      };
    }

-- no turn yet
pub AreFound-none : (c : Coordinate) (distances : List ℕ) (p : ℕ)
    → AreFound c distances p 0 (record { nearer = record { bits = 0 }; no_farther = record { bits = 0 } })
AreFound-none c distances p = record {
  near = λ t q lt to nearer. absurd (omega arith);
  level = λ t q lt to level. absurd (omega arith);
  few_near = omega arith;
  few_level = omega arith;
}

-- what is so of each place of a list once one is written anew
pub each_rewritten : {X : Type 0} (P : ℕ → X → Type 0) (xs : List X) (k : ℕ) (x : X) → k < length xs → P k x
    → (j : ℕ) (d : X) → (j ≢ k → P j (get_or xs j d)) → P j (get_or (set xs k x) j d)
each_rewritten P xs k x inside here j d there =
    elim (cases_eq j k) [
      | inl same ↦
          let Q : ℕ → Type 0 = λ i. P i (get_or (set xs k x) i d) in
          subst Q (sym same) (rw get_or-set_same here)
      | inr other ↦ rw get_or-set_other (there other)
    ]
