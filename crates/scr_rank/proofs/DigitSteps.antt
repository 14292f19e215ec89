-- The steps of the loops over digits in one base, as facts about lists.
use Rattle.std.proofs.Common.{◌≡◌, ℕ, suc, ◌+◌, ◌-◌, ◌*◌, ◌/◌, ◌%◌, ◌^◌, ◌<◌, ◌≤◌, List, ◌++◌, length, take, drop, replicate, set, slice_index, sym, ap, ◌∙◌, arith}
use Rattle.std.proofs.lemmas.List.{length-set, length-replicate, get_or-replicate, take_all, take_more_set, append_assoc, append-nil}
use Rattle.std.proofs.Math.Nat.{pow-le-pow_left, pow-le-pow_right, mod-add-mod}
use Rattle.scr_combinatorics.specs.Lists.{total}
use Rattle.scr_combinatorics.specs.Digits.{mixed_number, mixed_digits}
use Rattle.scr_combinatorics.specs.Twists.{IsTwists, with_sum_fixed, twists_at}
use Rattle.scr_combinatorics.proofs.Digits.{begins_with_all, product-replicate, product_pos}
use Rattle.scr_combinatorics.proofs.Twists.{total-push}
use Rattle.scr_rank.proofs.MixedSteps.{number_more, number_low}

-- 12^11 fits 40 bits
pub pow_small : (base n : ℕ) → base ≤ 12 → n ≤ 11 → base ^ n ≤ 743008370688
pow_small base n lb ln = grind (arith, pow-le-pow_left, pow-le-pow_right)

-- ---- the number from a place on

module _ (base place : ℕ) (ds : List ℕ) where
  -- what the digits from there on write, but for the last one
  abbrev pub rest_number : ℕ
  rest_number = mixed_number (drop place (replicate (length ds - 1) base)) (drop place ds)

rank_more : (base : ℕ) (ds : List ℕ) (place number : ℕ) → 0 < place → place ≤ length ds - 1
    → number ≡ rest_number base place ds → number * base + slice_index ds (place - 1) ≡ rest_number base (place - 1) ds
rank_more base ds place number pos le e =
    let m : ℕ = length ds - 1 in
    let size : length (replicate m base) ≡ m = length-replicate m base in
    ap (λ b. number * b + slice_index ds (place - 1)) (sym (get_or-replicate m (place - 1) base 0 (omega arith)))
    ∙ number_more (replicate m base) ds place number (omega arith) pos (omega arith) e

rank_low : (base place : ℕ) (ds : List ℕ) → base ≤ 12 → (1 ≤ length ds) × (length ds ≤ 12)
    → IsTwists (length ds) base ds → rest_number base place ds < 743008370688
rank_low base place ds lb size h = grind (arith, number_low, product_pos, begins_with_all, product-replicate, pow_small)

-- one digit more
pub record IsRankedBy (base place : ℕ) (ds : List ℕ) (next : ℕ) : Type 0 where
  pub counted : next ≡ rest_number base (place - 1) ds
  pub low : next < 743008370688

pub ranked_by : (base : ℕ) (ds : List ℕ) (place number b : ℕ) → b ≡ base → base ≤ 12
    → (1 ≤ length ds) × (length ds ≤ 12) → IsTwists (length ds) base ds → 0 < place → place ≤ length ds - 1
    → number ≡ rest_number base place ds → IsRankedBy base place ds (number * b + slice_index ds (place - 1))
ranked_by base ds place number b eb lb size h pos le e = grind (arith, rank_more, rank_low)

-- ---- the digits up to a place

module _ (base last place rest sum : ℕ) (out : List ℕ) (lt : place < last) (room : place < length out) where
  pub written_more : take (place + 1) (set out place (rest % base)) ++ mixed_digits (replicate (last - (place + 1)) base) (rest / base) ≡ take place out ++ mixed_digits (replicate (last - place) base) rest
  written_more =
      let n : ℕ = last - (place + 1) in
      let e : suc n ≡ last - place = omega arith in
      grind (arith, take_more_set, append_assoc)

  pub summed_more : sum ≡ total (take place out) % base
      → (sum + rest % base) % base ≡ total (take (place + 1) (set out place (rest % base))) % base
  summed_more e = grind (arith, mod-add-mod, take_more_set, total-push)

pub written_end : (base last place rest number : ℕ) (out : List ℕ) → last ≤ place → place ≤ last
    → take place out ++ mixed_digits (replicate (last - place) base) rest ≡ mixed_digits (replicate last base) number
    → take last out ≡ mixed_digits (replicate last base) number
written_end base last place rest number out low high e = grind (arith, append-nil)

-- ---- the last digit

pub ended : (base number sum n last : ℕ) (out : List ℕ) → last ≡ n - 1 → length out ≡ suc last
    → take last out ≡ mixed_digits (replicate last base) number → sum ≡ total (take last out) % base
    → set out last ((base - sum) % base) ≡ twists_at n base number
unfolding with_sum_fixed twists_at
ended base number sum n last out back size written summed =
    cc (
      take_all (last + 1) (set out last ((base - sum) % base)) (omega (arith, length-set out last ((base - sum) % base), size)),
      take_more_set out last ((base - sum) % base) (omega (arith, size)),
    )
