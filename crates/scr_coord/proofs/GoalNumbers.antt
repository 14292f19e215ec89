-- The goals' numbers: zeros and the list in order are number 0.
use Rattle.std.proofs.Common.{◌≡◌, ℕ, zero, suc, ◌-◌, ◌*◌, ◌≤◌, List, [], ◌∷◌, length, refl, ap, arith}
use Rattle.std.specs.Prelude.{replicate}
use Rattle.scr_combinatorics.specs.Digits.{mixed_number}
use Rattle.scr_combinatorics.specs.Lists.{lesser_count, numbers_from}
use Rattle.scr_combinatorics.specs.Permutations.{permutation_number}
use Rattle.scr_combinatorics.specs.Twists.{twists_number}
use Rattle.scr_combinatorics.proofs.Counts.{one_if-ge}
use Rattle.scr_orbit.specs.Orbits.{zeros}

mixed_number-zeros : (bases : List ℕ) (n : ℕ) → mixed_number bases (zeros n) ≡ 0
mixed_number-zeros [] n = refl
mixed_number-zeros (b ∷ bs) zero = refl
mixed_number-zeros (b ∷ bs) (suc n) = omega (arith, ap (λ k. b * k) (mixed_number-zeros bs n))

pub twists_number-zeros : (n base : ℕ) → twists_number base (zeros n) ≡ 0
twists_number-zeros n base = mixed_number-zeros (replicate (length (zeros n) - 1) base) n

lesser_count-above : (x start n : ℕ) → x ≤ start → lesser_count x (numbers_from start n) ≡ 0
lesser_count-above x start zero le = refl
lesser_count-above x start (suc n) le = omega (arith, one_if-ge start x le, lesser_count-above x (suc start) n (omega arith))

permutation_number-numbers : (start n : ℕ) → permutation_number (numbers_from start n) ≡ 0
permutation_number-numbers start zero = refl
permutation_number-numbers start (suc n) = grind (arith, lesser_count-above, permutation_number-numbers (suc start) n)

pub permutation_number-in_order : (n : ℕ) → permutation_number (numbers_from 0 n) ≡ 0
permutation_number-in_order n = permutation_number-numbers 0 n
