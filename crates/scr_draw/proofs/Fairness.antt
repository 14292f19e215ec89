-- Drawing by attempts on a numbering is fair.
use Rattle.std.proofs.Common.{◌≡◌, ℕ, ◌/◌, ◌%◌, ◌^◌, ◌<◌, ◌≤◌, Bool, Option, Some, None, is_none, refl, arith, lit<}
use Rattle.std.specs.Prelude.{IsTrue, ◌↔◌}
use Rattle.scr_draw.specs.Attempt.{is_accepted, quotient}
use Rattle.scr_draw.specs.Count.{IsCount, count_below}
use Rattle.scr_draw.specs.Drawn.{hit}
use Rattle.scr_draw.specs.Fair.{IsFair}
use Rattle.scr_combinatorics.specs.Numbered.{Numbered}
use Rattle.scr_combinatorics.specs.Numbering.{IsNumbering}
use Rattle.scr_draw.proofs.Accepted.{answered_tells, count_answered, is_answered}
use Rattle.scr_draw.proofs.CountedDraws.{count_ways}

one_run : (count bound : ℕ) → 1 ≤ count → count ≤ bound → 1 ≤ bound / count
one_run count bound some fits = grind arith

-- at least one run of numbers is accepted
pub quotient_some : (count : ℕ) → 1 ≤ count → count ≤ 2 ^ 96 → 1 ≤ quotient count
quotient_some count some fits = one_run count (2 ^ 96) some fits

-- what it is for a number to hit a state
pub hit_parts : {S : Type 0} (count : ℕ) (state_at : ℕ → S) (permits : S → Bool) (v : ℕ) (s : S)
    → hit count state_at permits v ≡ Some s
    → IsTrue (is_accepted count v) × (state_at (v % count) ≡ s) × IsTrue (permits s)
hit_parts count state_at permits v s h = grind arith

pub hit_from : {S : Type 0} (count : ℕ) (state_at : ℕ → S) (permits : S → Bool) (v : ℕ) (s : S)
    → IsTrue (is_accepted count v) → state_at (v % count) ≡ s → IsTrue (permits s)
    → hit count state_at permits v ≡ Some s
hit_from count state_at permits v s accepted same permitted = rw (accepted, same, permitted) refl

-- whether a number hits nothing
is_none_tells : {S : Type 0} (o : Option S) → IsTrue (is_none o) ↔ (o ≡ None)
is_none_tells o = grind arith

module _ {S : Type 0} (n : Numbered S) (law : IsNumbering n) where
  -- the answer of an accepted number gives a valid state exactly where it is that state's number
  same_state : (s : S) → n.IsValid s → (i : ℕ) → i < n.count → (i ≡ n.number_of s) ↔ (n.state_at i ≡ s)
  same_state s valid i below = grind arith

  -- each valid state is that of equally many accepted numbers
  pub state_equally : (s : S) → n.IsValid s
      → IsCount (λ v. IsTrue (is_accepted n.count v) × (n.state_at (v % n.count) ≡ s)) (2 ^ 96) (quotient n.count)
  state_equally s valid = record {
    test = is_answered n.count (n.number_of s);
    tells = λ v below.
        let some = law.some in
        let place : v % n.count < n.count = omega arith in
        let same = same_state s valid (v % n.count) place in
        let answered = answered_tells n.count (n.number_of s) v in (
          λ h. let parts = answered.0 h in (parts.0, same.0 parts.1),
          λ h. answered.1 (h.0, same.1 h.1),
        );
    counted = count_answered n.count (n.number_of s) (law.one_to_one.below s valid);
  }

  module _ (permits : S → Bool) where
    -- and is hit by as many where it passes the test
    hits_equally : (s : S) → n.IsValid s → IsTrue (permits s)
        → IsCount (λ v. hit n.count n.state_at permits v ≡ Some s) (2 ^ 96) (quotient n.count)
    hits_equally s valid passes = grind (arith, state_equally s valid)

    -- a state that a number hits is valid and passes the test
    hit_is_permitted : (v : ℕ) (s : S) → hit n.count n.state_at permits v ≡ Some s → n.IsValid s × IsTrue (permits s)
    hit_is_permitted v s h = grind arith

    -- fairness, for the valid states that pass a test
    pub fair : IsFair n.count n.state_at (hit n.count n.state_at permits) (λ s. n.IsValid s × IsTrue (permits s))
    fair =
        let misses : ℕ = count_below (λ v. is_none (hit n.count n.state_at permits v)) (2 ^ 96) in
        let missed : IsCount (λ v. hit n.count n.state_at permits v ≡ None) (2 ^ 96) misses =
        record {
          test = λ v. is_none (hit n.count n.state_at permits v);
          tells = λ v below. is_none_tells (hit n.count n.state_at permits v);
          counted = refl;
        } in record {
          some = quotient_some n.count law.some law.fits;
          equally = λ s h. state_equally s h.0;
          hit_equally = λ s h. hits_equally s h.0 h.1;
          permitted = λ v s below h. hit_is_permitted v s h;
          misses = misses;
          missed = missed;
          same_ways = λ len s h.
              count_ways s (hit n.count n.state_at permits) (2 ^ 96) (quotient n.count) _ (lit< tt) (hits_equally s h.0 h.1) missed len;
        }

-- fairness, for other words on the same states
pub fair_for : {S : Type 0} {count : ℕ} {state_at : ℕ → S} {hits : ℕ → Option S} (P Q : S → Type 0)
    → ((s : S) → P s ↔ Q s) → IsFair count state_at hits P → IsFair count state_at hits Q
fair_for P Q same fair_p = grind arith
