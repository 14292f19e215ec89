-- The steps of the loops over pairings, as facts about lists.
use Rattle.std.proofs.Common.{◌≡◌, ℕ, suc, ◌+◌, ◌-◌, ◌*◌, ◌/◌, ◌%◌, ◌<◌, ◌≤◌, List, ◌∷◌, length, take, slice_index, sym, ap, ◌∙◌, subst, arith}
use Rattle.std.proofs.lemmas.Nat.{mod_below}
use Rattle.std.proofs.Math.Nat.{mul-le-mul_left, div-div-eq-div-mul}
use Rattle.std.proofs.lemmas.List.{take_all, ext_get_or, length-take-le, get_or-take}
use Rattle.scr_combinatorics.specs.Pairings.{IsPairing, other_place, place_among_others, with_first_pair, without_first_pair, pairing_count, pairing_number, pairing_at}
use Rattle.scr_combinatorics.proofs.Pairings.{other_place-lt, by_places, length-with_first_pair, with_first_pair-partner, with_first_pair-other, length-without, without-at, pairing_count-pos, pairing_first, pairing_number-first, pairing_number-lt, IsPairing-at}
use Rattle.scr_rank.proofs.PermutationSteps.{first_digit}

-- what is written of a pairing with a first pair more, with so many of the others
pub record WrittenPairs (places x : ℕ) (rest out : List ℕ) (index : ℕ) : Type 0 where
  pub size : length out ≡ 8
  pub first : slice_index out 0 ≡ suc x
  pub partner : slice_index out (suc x) ≡ 0
  pub others : (j : ℕ) → j < index → slice_index out (other_place x j) ≡ other_place x (slice_index rest j)

pub WrittenPairs-end : (places x : ℕ) (rest out : List ℕ) (index : ℕ) → places + 2 ≤ 8 → x ≤ places → length rest ≡ 8
    → places ≤ index → WrittenPairs places x rest out index
    → take (places + 2) out ≡ with_first_pair x (take places rest)
WrittenPairs-end places x rest out index room le size end w =
    let some : List ℕ = take places rest in
    let count : length some ≡ places = length-take-le places rest (omega arith) in
    let whole : length (take (places + 2) out) ≡ places + 2 = length-take-le (places + 2) out (omega (arith, w.size)) in
    let taken = λ (k : ℕ) (lt : k < places + 2). get_or-take (places + 2) out k 0 lt in
    ext_get_or 0 (take (places + 2) out) (with_first_pair x some)
    (omega (arith, length-with_first_pair x some (omega arith))) (λ k lt.
    taken k (omega arith)
    ∙ by_places (λ k. slice_index out k ≡ slice_index (with_first_pair x some) k) places x le w.first
    (w.partner ∙ sym (with_first_pair-partner x some (omega arith)))
    (λ j low.
    w.others j (omega arith) ∙ ap (other_place x) (sym (get_or-take places rest j 0 low)) ∙ sym (with_first_pair-other x some (omega arith) j (omega arith)))
    k (omega arith))

-- what is written of a pairing without its first pair
pub record WrittenRest (x : ℕ) (partners out : List ℕ) (index : ℕ) : Type 0 where
  pub size : length out ≡ 8
  pub others : (j : ℕ) → j < index → slice_index out j ≡ place_among_others x (slice_index partners (other_place x j))

pub WrittenRest-end : (places x : ℕ) (partners out : List ℕ) (index : ℕ) → places + 2 ≤ 8 → length partners ≡ 8
    → places ≤ index → IsPairing (places + 2) (take (places + 2) partners) → WrittenRest x partners out index
    → (others : List ℕ) → take (places + 2) partners ≡ suc x ∷ others → take places out ≡ without_first_pair x others
WrittenRest-end places x partners out index room size end valid w others is =
    let two : places + 2 ≡ suc (suc places) = omega arith in
    let h : IsPairing (suc (suc places)) (suc x ∷ others) = subst (λ ys. IsPairing (suc (suc places)) ys) is (subst (λ n. IsPairing n (take (places + 2) partners)) two valid) in
    let count : length (take places out) ≡ places = length-take-le places out (omega (arith, w.size)) in
    ext_get_or 0 (take places out) (without_first_pair x others) (count ∙ sym (length-without places x others h)) (λ j lt.
    let low : j < places = omega arith in
    get_or-take places out j 0 low
    ∙ w.others j (omega arith)
    ∙ ap (place_among_others x) (sym (get_or-take (places + 2) partners (other_place x j) 0 (omega (arith, other_place-lt places x j low)))
    ∙ ap (λ ys. slice_index ys (other_place x j)) is)
    ∙ sym (without-at places x others h j low))

-- ---- the pairing of a number, from its last pairs on

-- so many pairs, and what is left of the number
pub record UnrankedPairs (pairs r left : ℕ) (partners : List ℕ) : Type 0 where
  pub size : length partners ≡ 8
  pub list : take (2 * pairs) partners ≡ pairing_at pairs (r % pairing_count pairs)
  pub left_is : left ≡ r / pairing_count pairs

pub IsPairing-unranked : (pairs r left : ℕ) (partners : List ℕ) → UnrankedPairs pairs r left partners
    → IsPairing (2 * pairs) (take (2 * pairs) partners)
IsPairing-unranked pairs r left partners u =
    subst (IsPairing (2 * pairs)) (sym u.list)
    (IsPairing-at pairs (r % pairing_count pairs) (mod_below r (pairing_count pairs) (pairing_count-pos pairs)))

-- one pair more
pub unranked_more : (pairs r left choices : ℕ) (partners next : List ℕ) → length next ≡ 8 → choices ≡ 2 * pairs + 1
    → UnrankedPairs pairs r left partners
    → take (2 * pairs + 2) next ≡ with_first_pair (left % choices) (take (2 * pairs) partners)
    → UnrankedPairs (pairs + 1) r (left / choices) next
unfolding pairing_at
unranked_more pairs r left choices partners next size e u is =
    grind (
      arith,
      first_digit r (2 * pairs) (pairing_count pairs) (pairing_count-pos pairs),
      div-div-eq-div-mul r (pairing_count pairs) (suc (2 * pairs)),
    )

pub unranked_end : (pairs r left : ℕ) (partners : List ℕ) → r < 105 → pairs ≡ 4 → UnrankedPairs pairs r left partners
    → partners ≡ pairing_at 4 r
unranked_end pairs r left partners lt e u = grind (arith, take_all)

-- ---- the number of a pairing, from its first pairs on

-- so many pairs are left, and the number of those before them
pub record RankedPairs (pairs number : ℕ) (rest partners : List ℕ) : Type 0 where
  pub size : length rest ≡ 8
  pub valid : IsPairing (2 * pairs) (take (2 * pairs) rest)
  pub counted : number * pairing_count pairs + pairing_number pairs (take (2 * pairs) rest) ≡ pairing_number 4 partners

pub ranked_start : (partners : List ℕ) → IsPairing 8 partners → RankedPairs 4 0 partners partners
ranked_start partners h = grind (arith, take_all 8 partners (omega (arith, h.size)))

-- one pair less, with the partner of the first place as the next choice
pub record RankStep (pairs number : ℕ) (rest partners : List ℕ) : Type 0 where
  pub choice : slice_index rest 0 - 1 ≤ 2 * pairs
  pub small : number * (2 * pairs + 1) + (slice_index rest 0 - 1) < 105
  pub more : (next : List ℕ)
      → ((x : ℕ) (others : List ℕ) → take (2 * pairs + 2) rest ≡ suc x ∷ others → take (2 * pairs) next ≡ without_first_pair x others)
      → length next ≡ 8 → RankedPairs pairs (number * (2 * pairs + 1) + (slice_index rest 0 - 1)) next partners

pub rank_step : (before pairs number : ℕ) (rest partners : List ℕ) → before ≡ suc pairs → IsPairing 8 partners
    → RankedPairs before number rest partners → RankStep pairs number rest partners
rank_step before pairs number rest partners e h was =
    let r : RankedPairs (suc pairs) number rest partners = subst (λ n. RankedPairs n number rest partners) e was in
    grind (
      arith,
      r.counted,
      pairing_number-first pairs (take (2 * suc pairs) rest) (pairing_first pairs (take (2 * suc pairs) rest) r.valid),
      pairing_number-lt 4 partners h,
      mul-le-mul_left (number * (2 * pairs + 1) + (pairing_first pairs (take (2 * suc pairs) rest) r.valid).partner) (pairing_count-pos pairs),
    )

pub rank_end : (pairs number : ℕ) (rest partners : List ℕ) → pairs ≤ 0 → RankedPairs pairs number rest partners
    → number ≡ pairing_number 4 partners
unfolding pairing_number
rank_end pairs number rest partners h0 h1 = grind arith
