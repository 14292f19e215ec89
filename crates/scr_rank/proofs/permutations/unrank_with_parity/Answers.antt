use Rattle.std.proofs.Common.{◌≡◌, ◌-◌, ◌*◌, ◌<◌, ◌↔◌, ℕ, Bool, true, false, not, cond, List, length, refl, sym, ◌∙◌, arith}
use Rattle.std.proofs.lemmas.Bool.{cases_eq, false≢true}
use Rattle.std.specs.Bool.{beq}
use Rattle.std.specs.List.{swap}
use Rattle.scr_combinatorics.specs.Permutations.{IsPermutation, parity, permutation_number}
use Rattle.scr_combinatorics.proofs.Halves.{IsHalf, IsHalf-last_swapped, half_at-only, two_from_half}
use Rattle.scr_rank.proofs.PermutationSteps.{swap-last}
use Rattle.scr_rank.proofs.permutations.unrank_with_parity.Goals as goal

-- a parity that is found, and one that is wanted
same_parity : (found odd : Bool) (p : ℕ) → p < 2 → ((found ≡ true) ↔ (p ≡ 1)) → not (beq found odd) ≡ false
    → p ≡ cond odd 1 0
same_parity true true p low h same = h.0 refl
same_parity false false p low h same = grind (arith, cases_eq, false≢true)
same_parity true false p low h same = absurd (false≢true (sym same))
same_parity false true p low h same = absurd (false≢true (sym same))

other_parity : (found odd : Bool) (p : ℕ) → p < 2 → ((found ≡ true) ↔ (p ≡ 1)) → not (beq found odd) ≡ true
    → 1 - p ≡ cond odd 1 0
other_parity true true p low h differ = absurd (false≢true differ)
other_parity false false p low h differ = absurd (false≢true differ)
other_parity true false p low h differ = omega (arith, h.0 refl)
other_parity false true p low h differ = grind (arith, cases_eq, false≢true)

-- the first of the two permutations, where it has the parity, and the other, where it hasn't
module _ (n half : ℕ) (found odd : Bool) (xs : List ℕ) (valid : IsPermutation n xs) (number : permutation_number xs ≡ 2 * half) (tells : (found ≡ true) ↔ (parity xs ≡ 1)) where
  first_half : not (beq found odd) ≡ false → IsHalf n (cond odd 1 0) half xs
  first_half same = grind (arith, same_parity)

  other_half : 1 < n → not (beq found odd) ≡ true → (ys : List ℕ) → ys ≡ swap xs (length xs - 1 - 1) (length xs - 1)
      → IsHalf n (cond odd 1 0) half ys
  other_half few differ ys swapped =
      let own : IsHalf n (parity xs) half xs = record { permutation = valid; same_parity = refl; number = omega (arith, number) } in
      rw (swapped ∙ swap-last xs _ _ (omega (arith, valid.size)) refl refl, ← other_parity found odd (parity xs) (omega arith) tells differ)
      (IsHalf-last_swapped n (parity xs) half xs few own)

pub returns-then-is_odd-odd : goal.returns-then-is_odd-odd
returns-then-is_odd-odd c =
    let n = length c.args.out.now in
    let few = two_from_half n c.args.number c.requires.below in
    let h = other_half n c.args.number c.is_odd.result c.args.odd c.unrank_permutation.new.out c.unrank_permutation.ensures.valid
    c.unrank_permutation.ensures.number c.is_odd.ensures few c.if-is_odd-odd.true c.swap.new.self c.swap.ensures.after in
    record { list = half_at-only n (cond c.args.odd 1 0) c.args.number c.swap.new.self few h; valid = h.permutation; parity = h.same_parity; number = h.number }
