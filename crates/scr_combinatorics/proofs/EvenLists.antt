-- What holds of all even permutations of a few numbers, by a test that the checker computes over their list.
use Rattle.std.proofs.Common.{◌≡◌, ℕ, ◌/◌, ◌<◌, Bool, true, List, get_or, sym, ap, ◌∙◌, arith}
use Rattle.std.specs.List.{list_all}
use Rattle.std.proofs.lemmas.List.Sums.{AllPass-from_list_all}
use Rattle.scr_combinatorics.specs.Lists.{numbers_from}
use Rattle.scr_combinatorics.specs.Permutations.{IsPermutation, IsEven, factorial, permutation_number, half_at}
use Rattle.scr_combinatorics.proofs.Picks.{length-numbers_from, numbers_from-at}
use Rattle.scr_combinatorics.proofs.Halves.{half_lt, half_at-number}

-- an even permutation of n numbers
pub record IsEvenPermutation (n : ℕ) (xs : List ℕ) : Type 0 where
  pub permutation : IsPermutation n xs
  pub even : IsEven xs

-- each of them passes a test
unfoldable pub passes_all : (List ℕ → Bool) → ℕ → Bool
passes_all test n = list_all (λ k. test (half_at n 0 k)) (numbers_from 0 (factorial n / 2))

pub test-even : (test : List ℕ → Bool) (n : ℕ) (xs : List ℕ) → 1 < n → passes_all test n ≡ true → IsEvenPermutation n xs
    → test xs ≡ true
unfolding passes_all
test-even test n xs le all h =
    let k : ℕ = permutation_number xs / 2 in
    let lt : k < factorial n / 2 = half_lt n xs (omega arith) h.permutation in
    let each = AllPass-from_list_all (λ i. test (half_at n 0 i)) (numbers_from 0 (factorial n / 2)) all in
    let at : get_or (numbers_from 0 (factorial n / 2)) k 0 ≡ k = numbers_from-at 0 (factorial n / 2) k lt ∙ omega arith in
    let is : half_at n 0 k ≡ xs = ap (λ odd. half_at n odd k) (sym h.even) ∙ half_at-number n xs le h.permutation in
    ap test (sym (ap (half_at n 0) at ∙ is)) ∙ each k 0 (omega (arith, length-numbers_from 0 (factorial n / 2)))
