-- The steps of the loops over sets of places, as facts about lists.
use Rattle.std.proofs.Common.{◌≡◌, ℕ, zero, suc, ◌+◌, ◌-◌, ◌*◌, ◌/◌, ◌^◌, ◌<◌, ◌≤◌, inl, inr, List, ◌∷◌, ◌++◌, length, take, drop, set, slice_index, sym, ap, ◌∙◌, add-one, arith}
use Rattle.std.proofs.lemmas.Bool.{cases_lt}
use Rattle.std.proofs.lemmas.List.{drop_more, length-drop, take_more_set, append_assoc, append-nil, length-take, take_all, length-set}
use Rattle.std.proofs.Math.Nat.{mul-div_cancel, mul-le-mul_right, pow-le-pow_right}
use Rattle.scr_combinatorics.specs.PlaceSets.{binomial, IsPlaceSet, place_set_number_from, place_set_number, place_set_from, place_set_at}
use Rattle.scr_combinatorics.proofs.PlaceSets.{binomial-above, binomial-next, binomial-le_pow, place_set_number-lt, number-here, IsPlaceSet-at}

-- ---- binomials

pub binomial-small : (n k : ℕ) → n ≤ 12 → binomial n k ≤ 4096
binomial-small n k few = grind (arith, binomial-le_pow, pow-le-pow_right)

pub count_step : (n k count : ℕ) → k < n → count ≡ binomial n k → count * (n - k) / (k + 1) ≡ binomial n (k + 1)
count_step n k count lt e = grind (arith, add-one, binomial-next, mul-div_cancel)

pub count_small : (n k count : ℕ) → n ≤ 12 → count ≡ binomial n k → count * (n - k) < 2 ^ 32
count_small n k count few e = grind (arith, binomial-small, mul-le-mul_right)

-- no set is larger than there are places
pub size_within : (n k number : ℕ) → number < binomial n k → k ≤ n
size_within n k number lt = grind (arith, cases_lt, binomial-above)

-- ---- the sets with the next place

-- how many sets of k of n + 1 places have the first place
abbrev pub with_first : ℕ → ℕ → ℕ
with_first n zero = 0
with_first n (suc k) = binomial n k

share_step : (a b j d n : ℕ) → n ≡ j + d → b * suc j ≡ a * d → (a + b) * suc j ≡ a * suc n
share_step a b j d n e h = rw e (omega arith)

none_step : (a b j n : ℕ) → a ≡ 0 → b ≡ 0 → (a + b) * suc j ≡ a * suc n
none_step a b j n ea eb = rw (ea, eb) (omega arith)

-- of the places of all sets together, each place has the same share
first_share : (n j : ℕ) → binomial (suc n) (suc j) * suc j ≡ binomial n j * suc n
first_share n j =
    elim (cases_lt n j) [
      | inl above ↦ none_step (binomial n j) (binomial n (suc j)) j n (binomial-above n j above) (binomial-above n (suc j) (omega arith))
      | inr within ↦ share_step (binomial n j) (binomial n (suc j)) j (n - j) n (omega arith) (binomial-next n j (n - j) (omega arith))
    ]

with_first-share : (n k : ℕ) → binomial (suc n) k * k / suc n ≡ with_first n k
with_first-share n k = grind (arith, first_share, mul-div_cancel)

-- what the loops compute of the sets that are left, `left` places from here on and `size` of them still to come
pub record NextSets (places place size sets : ℕ) : Type 0 where
  pub with_place : sets * size / (places - place) ≡ with_first (places - (place + 1)) size
  pub split : sets ≡ with_first (places - (place + 1)) size + binomial (places - (place + 1)) size
  pub small : sets * size < 2 ^ 32
  pub few : sets ≤ 4096

pub next_sets : (places place size sets : ℕ) → places ≤ 12 → place < places → size ≤ 12
    → sets ≡ binomial (places - place) size → NextSets places place size sets
next_sets places place size sets few lt within e =
    let n : ℕ = places - (place + 1) in
    let all : places - place ≡ suc n = omega arith in
    grind (arith, binomial-small, with_first-share)

-- a set that takes the place has one place less to come
next_size : (n size chosen : ℕ) → chosen < size → with_first n (size - chosen) ≡ binomial n (size - (chosen + 1))
next_size n size chosen lt = grind arith

-- where none is to come, none has the place
pub none_left : (n length chosen : ℕ) → length ≤ chosen → with_first n (length - chosen) ≡ 0
none_left n length chosen le = let none : length - chosen ≡ 0 = omega arith in ap (with_first n) none

-- ---- the number from a place on

-- what the rest of a set counts for
abbrev pub rest_number : List ℕ → ℕ → ℕ → ℕ → ℕ
rest_number xs places place passed = place_set_number_from place (places - place) (drop passed xs)

rest_of : (places place : ℕ) → place < places → places - place ≡ suc (places - (place + 1))
rest_of places place lt = omega arith

rank_here : (xs : List ℕ) (places place passed : ℕ) → place < places → passed < length xs
    → slice_index xs passed ≡ place
    → rest_number xs places place passed ≡ rest_number xs places (place + 1) (passed + 1)
rank_here xs places place passed lt more here = grind (arith, rest_of, drop_more, number-here, add-one)

number-past : (place rest : ℕ) (zs : List ℕ) → ((x : ℕ) (ys : List ℕ) → zs ≡ x ∷ ys → x ≡ place → ⊥)
    → place_set_number_from place (suc rest) zs ≡ with_first rest (length zs) + place_set_number_from (suc place) rest zs
number-past place rest zs h0 = grind arith

rank_past : (xs : List ℕ) (places place passed size : ℕ) → length xs ≡ size → place < places
    → (passed < size → slice_index xs passed ≡ place → ⊥)
    → rest_number xs places place passed ≡ with_first (places - (place + 1)) (size - passed) + rest_number xs places (place + 1) passed
rank_past xs places place passed size is lt other = grind (arith, length-drop, drop_more, rest_of, number-past)

rank_small : (places size : ℕ) (xs : List ℕ) → places ≤ 12 → IsPlaceSet places size xs
    → (place_set_number places xs < 2 ^ 32) × (size ≤ 12)
rank_small places size xs few h =
    let low : place_set_number places xs < binomial places size = place_set_number-lt places size xs h in
    (omega (arith, low, binomial-small places size few), omega (arith, size_within places size _ low))

-- ---- the set from a place on

-- what the loop has written, and what it will write
abbrev whole : ℕ → List ℕ → ℕ → ℕ → ℕ → ℕ → List ℕ
whole size out places place chosen rest = take chosen out ++ place_set_from place (places - place) (size - chosen) rest

module _ (size : ℕ) (out : List ℕ) (places place chosen rest : ℕ) (lt : place < places) where
  set-past : (count k : ℕ) → with_first count k ≤ rest
      → place_set_from place (suc count) k rest ≡ place_set_from (suc place) count k (rest - with_first count k)
  set-past count k h0 = grind arith

  unrank_takes : chosen < size → length out ≡ size → rest < with_first (places - (place + 1)) (size - chosen)
      → whole size (set out chosen place) places (place + 1) (chosen + 1) rest ≡ whole size out places place chosen rest
  unrank_takes more is low =
      let count : ℕ = places - (place + 1) in
      let k : ℕ = size - (chosen + 1) in
      let all : suc count ≡ places - place = omega arith in
      grind (arith, take_more_set, append_assoc)

  unrank_past : with_first (places - (place + 1)) (size - chosen) ≤ rest
      → whole size out places (place + 1) chosen (rest - with_first (places - (place + 1)) (size - chosen)) ≡ whole size out places place chosen rest
  unrank_past high = grind (arith, add-one, set-past)

-- ---- what the loops keep

start_sets : (places size sets : ℕ) → sets ≡ binomial places size → sets ≡ binomial (places - 0) (size - 0)
start_sets places size sets e = e ∙ ap (λ n. binomial n size) (omega arith) ∙ ap (binomial (places - 0)) (omega arith)

-- the number so far and that of the rest of the set come to the set's number
pub record IsRanked (xs : List ℕ) (places size place passed number sets : ℕ) : Type 0 where
  pub within : passed ≤ size
  pub sets_left : sets ≡ binomial (places - place) (size - passed)
  pub counted : number + rest_number xs places place passed ≡ place_set_number places xs

pub ranked_start : (xs : List ℕ) (places size sets : ℕ) → sets ≡ binomial places size
    → IsRanked xs places size 0 0 0 sets
ranked_start xs places size sets e = grind (arith, start_sets)

module _ {xs : List ℕ} {places size place passed number sets : ℕ} (few : places ≤ 12) (valid : IsPlaceSet places size xs) (lt : place < places) (so_far : IsRanked xs places size place passed number sets) where
  pub ranked_next : NextSets places place (size - passed) sets
  ranked_next =
      next_sets places place (size - passed) sets few lt (omega (arith, (rank_small places size xs few valid).1)) so_far.sets_left

  -- the number fits
  pub ranked_low : number + sets * (size - passed) / (places - place) < 2 ^ 64
  ranked_low = grind (arith, rank_small, ranked_next)

  -- a place of the set
  pub ranked_here : passed < size → slice_index xs passed ≡ place
      → IsRanked xs places size (place + 1) (passed + 1) number (sets * (size - passed) / (places - place))
  ranked_here more here = record {
    within = omega arith;
    sets_left = ranked_next.with_place ∙ next_size _ size passed more;
    counted = omega (arith, so_far.counted, rank_here xs places place passed lt (omega (arith, valid.size)) here);
  }

  -- and another place
  pub ranked_past : (passed < size → slice_index xs passed ≡ place → ⊥)
      → IsRanked xs places size (place + 1) passed (number + sets * (size - passed) / (places - place)) (sets - sets * (size - passed) / (places - place))
  ranked_past other = record {
    within = so_far.within;
    sets_left = omega (arith, ranked_next.with_place, ranked_next.split);
    counted = omega (arith, ranked_next.with_place, so_far.counted, rank_past xs places place passed size valid.size lt other);
  }

-- what is written and what is to come is the set
pub record IsUnranked (number places size : ℕ) (out : List ℕ) (place chosen rest sets : ℕ) : Type 0 where
  pub length_is : length out ≡ size
  pub within : chosen ≤ size
  pub sets_left : sets ≡ binomial (places - place) (size - chosen)
  pub written : whole size out places place chosen rest ≡ place_set_at places size number

pub unranked_start : (number places size : ℕ) (out : List ℕ) (sets : ℕ) → length out ≡ size
    → sets ≡ binomial places size → IsUnranked number places size out 0 0 number sets
unfolding place_set_at
unranked_start number places size out sets is e = grind (arith, start_sets)

module _ {number places size : ℕ} {out : List ℕ} {place chosen rest sets : ℕ} (few : places ≤ 12) (below : number < binomial places size) (lt : place < places) (so_far : IsUnranked number places size out place chosen rest sets) where
  pub unranked_next : NextSets places place (size - chosen) sets
  unranked_next =
      next_sets places place (size - chosen) sets few lt (omega (arith, size_within places size number below)) so_far.sets_left

  -- where a number is below that of the sets with the place, some place is still to come
  pub some_left : rest < sets * (size - chosen) / (places - place) → chosen < size
  some_left low = grind arith

  -- the set has the place
  pub unranked_takes : rest < sets * (size - chosen) / (places - place)
      → IsUnranked number places size (set out chosen place) (place + 1) (chosen + 1) rest (sets * (size - chosen) / (places - place))
  unranked_takes low = record {
    length_is = length-set out chosen place ∙ so_far.length_is;
    within = omega (arith, some_left low);
    sets_left = unranked_next.with_place ∙ next_size _ size chosen (some_left low);
    written = unrank_takes size out places place chosen rest lt (some_left low) so_far.length_is (omega (arith, unranked_next.with_place)) ∙ so_far.written;
  }

  -- or lacks it
  pub unranked_past : sets * (size - chosen) / (places - place) ≤ rest
      → IsUnranked number places size out (place + 1) chosen (rest - sets * (size - chosen) / (places - place)) (sets - sets * (size - chosen) / (places - place))
  unranked_past high = record {
    length_is = so_far.length_is;
    within = so_far.within;
    sets_left = omega (arith, unranked_next.with_place, unranked_next.split);
    written = ap (λ z. whole size out places (place + 1) chosen (rest - z)) unranked_next.with_place
        ∙ unrank_past size out places place chosen rest lt (omega (arith, unranked_next.with_place))
        ∙ so_far.written;
  }

-- at the end the list is written whole
pub unrank_end : (number places size : ℕ) (out : List ℕ) (place chosen rest sets : ℕ) → number < binomial places size
    → places ≤ place → IsUnranked number places size out place chosen rest sets → out ≡ place_set_at places size number
unrank_end number places size out place chosen rest sets low done u =
    let none : places - place ≡ 0 = omega arith in
    let front : take chosen out ≡ place_set_at places size number =
    sym (append-nil (take chosen out)) ∙ ap (λ z. take chosen out ++ place_set_from place z (size - chosen) rest) (sym none) ∙ u.written in
    let all : length (take chosen out) ≡ size = ap length front ∙ (IsPlaceSet-at places size number low).size in
    sym (take_all chosen out (omega (arith, u.length_is, length-take chosen out))) ∙ front
