-- The steps of the loops over permutations, as facts about lists.
use Rattle.std.proofs.Common.{◌≡◌, ℕ, zero, suc, ◌+◌, ◌-◌, ◌*◌, ◌/◌, ◌%◌, ◌^◌, ◌<◌, ◌≤◌, All, List, [], ◌∷◌, map, length, take, drop, set, slice_index, refl, sym, ap, ◌∙◌, subst, zero-add, arith}
use Rattle.std.specs.List.{swap}
use Rattle.std.proofs.lemmas.List.Edits.{swap_is}
use Rattle.std.proofs.lemmas.List.{take_rest, at_drop_more, length-drop, drop-set, drop-set-lt, drop-append-le, drop-take, drop_all, append-nil}
use Rattle.std.proofs.lemmas.Nat.{mod_below, div-mul-add, mod-mul-add}
use Rattle.std.proofs.Math.Nat.{mul_comm, div-div-eq-div-mul, div-one, mod-eq_of_lt}
use Rattle.std.proofs.Math.Arith.{mod-mul}
use borrow.Rule.Slice.PartMut.{put_mid}
use Rattle.scr_combinatorics.specs.Lists.{lesser_count}
use Rattle.scr_combinatorics.specs.Permutations.{IsPermutation, inversions, factorial, permutation_number, nth_except, permutation_at}
use Rattle.scr_combinatorics.proofs.Counts.{lesser_count-le_length}
use Rattle.scr_combinatorics.proofs.PermutationLaws.{All-permutation}
use Rattle.scr_combinatorics.proofs.PermutationNumbers.{permutation_number-lt, factorial-pos, IsPermutation-at}
use Rattle.scr_combinatorics.proofs.Halves.{last_swapped}

-- ---- bounds

factorial-more : (m d : ℕ) → factorial m ≤ factorial (d + m)
factorial-more m zero = omega (arith, ap factorial (zero-add m))
factorial-more m (suc d) =
    let e : suc d + m ≡ suc (d + m) = omega arith in
    omega (arith, ap factorial e, factorial-more m d)

-- n! fits 32 bits for n up to 12
pub factorial-small : (n : ℕ) → n ≤ 12 → factorial n < 2 ^ 32
factorial-small n le = grind (arith, factorial-more n (12 - n))

pub inversions-le : (n : ℕ) (xs : List ℕ) → length xs ≤ n → inversions xs ≤ n * length xs
inversions-le n [] le = omega arith
inversions-le n (x ∷ xs) le = omega (arith, lesser_count-le_length x xs, inversions-le n xs (omega arith))

pub inversions-small : (xs : List ℕ) → length xs < 2 ^ 16 → inversions xs < 2 ^ 32
inversions-small xs lt = omega (arith, inversions-le (2 ^ 16) xs (omega arith))

-- ---- the inversions from a place on

pub inversions-drop : (xs : List ℕ) (place : ℕ) → place < length xs
    → inversions (drop place xs) ≡ lesser_count (slice_index xs place) (take (length xs - (place + 1)) (drop (place + 1) xs)) + inversions (drop (place + 1) xs)
inversions-drop xs place lt = cc (at_drop_more inversions xs place 0 lt, take_rest xs (place + 1))

-- ---- the number from a place on

pub record RankStep (xs : List ℕ) (place number weight count : ℕ) : Type 0 where
  pub counted : number + weight * count ≡ permutation_number (drop (place - 1) xs)
  pub weighed : weight * (length xs - (place - 1)) ≡ factorial (length xs - (place - 1))
  pub low : number + weight * count < 2 ^ 32
  pub low_weight : weight * (length xs - (place - 1)) < 2 ^ 32

pub rank_step : (xs : List ℕ) (place number weight count : ℕ) → length xs ≤ 12 → 0 < place → place ≤ length xs
    → number ≡ permutation_number (drop place xs) → weight ≡ factorial (length xs - place)
    → count ≡ lesser_count (slice_index xs (place - 1)) (take (length xs - (place - 1 + 1)) (drop (place - 1 + 1) xs))
    → RankStep xs place number weight count
rank_step xs place number weight count few pos le en ew ec =
    grind (
      arith,
      take_rest xs ((place - 1) + 1),
      mul_comm (factorial (length xs - place)) (lesser_count (slice_index xs (place - 1)) (drop ((place - 1) + 1) xs)),
      mul_comm (factorial (length xs - place)) (suc (length xs - place)),
      factorial-small (length xs - (place - 1)) (omega arith),
      permutation_number-lt (drop (place - 1) xs),
      length-drop (place - 1) xs,
    )

-- ---- the permutation from a place on

-- the list from there on, and what is left of the number
pub record UnrankStep (n r rest : ℕ) (xs : List ℕ) : Type 0 where
  pub list : xs ≡ permutation_at n (r % factorial n)
  pub rest_is : rest ≡ r / factorial n

-- the first digit of a number below (n + 1) * f, and what it leaves
pub first_digit : (r n f : ℕ) → 0 < f → (r % (suc n * f) / f ≡ r / f % suc n) × (r % (suc n * f) % f ≡ r % f)
first_digit r n f pos = grind (arith, mod_below, mod-mul, div-mul-add, mod-mul-add)

-- one digit more
unrank_more : (n r rest : ℕ) (xs : List ℕ) → UnrankStep n r rest xs
    → UnrankStep (suc n) r (rest / suc n) (rest % suc n ∷ map (nth_except (rest % suc n)) xs)
unfolding permutation_at
unrank_more n r rest xs h = grind (arith, first_digit, factorial-pos, div-div-eq-div-mul, mul_comm)

-- what lies after the place that is written
after_write : (out : List ℕ) (q d : ℕ)
    → take (length (set out q d) - (q + 1)) (drop (q + 1) (set out q d)) ≡ drop (q + 1) out
after_write out q d = take_rest (set out q d) (q + 1) ∙ drop-set-lt (q + 1) out q d (omega arith)

-- the list from that place on, once what follows is nth_except
from_write : (out : List ℕ) (q d : ℕ) (ys : List ℕ) → q < length out
    → drop q (put_mid (q + 1) (length (set out q d) - (q + 1)) (set out q d) ys) ≡ d ∷ ys
from_write out q d ys lt = grind (arith, drop-append-le, drop-take, drop-set, drop_all, length-drop, append-nil)

module _ (len : ℕ) (out : List ℕ) (size : length out ≡ len) (place r rest d : ℕ) (few : len ≤ 12) (pos : 0 < place) (le : place ≤ len) (h : UnrankStep (len - place) r rest (drop place out)) (is_d : d ≡ rest % (len - (place - 1))) where
  pub unrank_room : All (λ z. z < 255) (take (length (set out (place - 1) d) - (place - 1 + 1)) (drop (place - 1 + 1) (set out (place - 1) d)))
  unrank_room =
      let q : ℕ = place - 1 in
      let e : q + 1 ≡ place = omega arith in
      let n : ℕ = len - place in
      let own : IsPermutation n (drop place out) = subst (IsPermutation n) (sym h.list) (IsPermutation-at n (r % factorial n) (mod_below r (factorial n) (factorial-pos n))) in
      grind (arith, after_write out q d, All-permutation n (drop place out) own)

  pub unrank_step : (ys : List ℕ)
      → ys ≡ map (nth_except d) (take (length (set out (place - 1) d) - (place - 1 + 1)) (drop (place - 1 + 1) (set out (place - 1) d)))
      → UnrankStep (len - (place - 1)) r (rest / (len - (place - 1))) (drop (place - 1) (put_mid (place - 1 + 1) (length (set out (place - 1) d) - (place - 1 + 1)) (set out (place - 1) d) ys))
  unrank_step ys ey =
      grind (
        arith,
        after_write out (place - 1) d,
        from_write out (place - 1) d ys (omega arith),
        unrank_more (len - place) r rest (drop place out) h,
      )

-- at the start nothing is written
pub unrank_start : (out : List ℕ) (r : ℕ) → UnrankStep (length out - length out) r r (drop (length out) out)
unfolding permutation_at
unrank_start out r = grind (arith, drop_all, div-one)

-- and at the end all is
pub unrank_end : (n r rest place : ℕ) (out : List ℕ) → r < factorial n → place ≤ 0
    → UnrankStep (n - place) r rest (drop place out) → out ≡ permutation_at n r
unrank_end n r rest place out lt none h = grind (arith, mod-eq_of_lt)

-- ---- the last two elements exchanged

swap_later : (x y : ℕ) (ys : List ℕ) (i j : ℕ) → i < length (y ∷ ys) → j < length (y ∷ ys)
    → swap (x ∷ y ∷ ys) (suc i) (suc j) ≡ x ∷ swap (y ∷ ys) i j
swap_later x y ys i j li lj = ap (λ zs. x ∷ zs) (swap_is (y ∷ ys) i j x li lj)

swap_last_two : (xs : List ℕ) (i : ℕ) → suc (suc i) ≡ length xs → swap xs i (suc i) ≡ last_swapped xs
swap_last_two (x ∷ y ∷ []) zero e = refl
swap_last_two (x ∷ y ∷ z ∷ xs) (suc i) e = grind (arith, swap_later, swap_last_two (y ∷ z ∷ xs) i (omega arith))
swap_last_two xs i e = absurd (omega arith)

pub swap-last : (xs : List ℕ) (low high : ℕ) → 2 ≤ length xs → low ≡ length xs - 1 - 1 → high ≡ length xs - 1
    → swap xs low high ≡ last_swapped xs
swap-last xs low high le el eh = grind (arith, swap_last_two)
