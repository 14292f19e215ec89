-- What holds of the entries of a list after one of them is written.
use Rattle.std.proofs.Common.{◌≡◌, ◌≢◌, ℕ, ◌+◌, ◌-◌, ◌<◌, ◌≤◌, List, ◌⊎◌, inl, inr, length, get_or, sym, subst, arith, get_or-set_other, get_or-set_same}
use Rattle.std.proofs.Math.ListN.{set}
use Rattle.std.proofs.lemmas.Bool.{cases_order}

-- a property of a place and its entry, after one entry is written
pub written_at : (P : ℕ → ℕ → Type 0) (entries : List ℕ) (p entry : ℕ) → p < length entries → P p entry → (k : ℕ)
    → (k ≢ p → P k (get_or entries k 0)) → P k (get_or (set entries p entry) k 0)
written_at P entries p entry inside here k there = by_place (cases_order k p)
  where
    apart : k ≢ p → P k (get_or (set entries p entry) k 0)
    apart other = rw get_or-set_other (there other)

    by_place : (k ≡ p) ⊎ ((k < p) ⊎ (p < k)) → P k (get_or (set entries p entry) k 0)
    by_place (inl same) =
        let Q : ℕ → Type 0 = λ i. P i (get_or (set entries p entry) i 0) in
        subst Q (sym same) (rw get_or-set_same here)
    by_place (inr (inl less)) = apart (λ e. omega arith)
    by_place (inr (inr more)) = apart (λ e. omega arith)

-- what holds of each entry before a place holds of one more, where it holds of what is written there
pub each_written : (P : ℕ → ℕ → Type 0) (entries : List ℕ) (p entry : ℕ) → p < length entries
    → ((k : ℕ) → k < p → P k (get_or entries k 0)) → P p entry → (k : ℕ) → k < p + 1
    → P k (get_or (set entries p entry) k 0)
each_written P entries p entry inside before here k lt =
    written_at P entries p entry inside here k (λ other. before k (omega arith))

-- the same where the places are counted from another
pub each_written_from : (P : ℕ → ℕ → Type 0) (entries : List ℕ) (start p entry : ℕ) → start ≤ p
    → p - start < length entries → ((k : ℕ) → start + k < p → P k (get_or entries k 0)) → P (p - start) entry → (k : ℕ)
    → start + k < p + 1 → P k (get_or (set entries (p - start) entry) k 0)
each_written_from P entries start p entry from inside before here k lt =
    each_written P entries (p - start) entry inside (λ j less. before j (omega arith)) here k (omega arith)
