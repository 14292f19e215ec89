-- Mates: where they stand is a pairing of the places, which moves of the pieces carry along. Lists of pieces in which
-- mates stand opposite to each other, by their codes: what is so of each code is computed over all of them.
use Rattle.std.proofs.Common.{◌≡◌, ℕ, suc, ◌<◌, eqb, true, false, cond, List, [], ◌∷◌, map, slice_index, refl, sym, ap, ◌∙◌, arith, eq-eqb, ltb-true, ◌+◌, ◌*◌, ◌/◌, ◌%◌, length, subst, lit<}
use Rattle.std.specs.Prelude.{◌==◌, nat_lt, All}
use Rattle.std.proofs.lemmas.Bool.{cases_eq, ne_eqb, false≢true, cond-true}
use Rattle.std.proofs.lemmas.List.{length-map, get_or-map}
use Rattle.std.proofs.lemmas.List.Elements.{All-head, All-tail, All-map}
use Rattle.scr_combinatorics.specs.Lists.{occurrences, pick, numbers_from}
use Rattle.scr_combinatorics.specs.Permutations.{IsPermutation, place_of, is_permutation, parity, permutation_at}
use Rattle.scr_combinatorics.specs.Pairings.{IsPairing}
use Rattle.scr_combinatorics.proofs.PermutationLaws.{All-permutation, at-permutation, injective-permutation, place_of-lt, at-place_of, IsPermutation-from_test, is_permutation-true, IsPermutation-pick, IsPermutation-numbers_from}
use Rattle.scr_sq1tables.specs.Stages.{mates, pairing_of}
use Rattle.scr_sq1tables.specs.Tables.{carried_pairing, pair_of, is_larger, smaller, bits_number, pairs_number, paired_at, code_number, code_at, row_parity, place_in_row, code_in_row}
use Rattle.scr_sq1tables.proofs.Numbers.{at_each, at_both, numbers_all}
use Rattle.scr_combinatorics.specs.Numbering.{IsOneToOne}
use Rattle.scr_combinatorics.proofs.PermutationNumbers.{permutation_number-lt}
use Rattle.scr_positions.specs.Coordinates.{StaysBelow}
use Rattle.scr_coord.specs.Projections.{projection}
use Rattle.scr_coord.proofs.ListViews.{IsListView, StaysBelow-projection}
use Rattle.scr_sq1tables.specs.Codes.{codes_view}
use Rattle.scr_sq1tables.specs.Placed.{move_by, moves_of, KeepsMates}
use Rattle.scr_sq1tables.proofs.Renamed.{pick-order}

-- ---- places of pieces

module _ (n : ℕ) (xs : List ℕ) (p : IsPermutation n xs) where
  stands : (v : ℕ) → v < n → 0 < occurrences v xs
  stands v lt = omega (arith, p.once v lt)

  place-lt : (v : ℕ) → v < n → place_of v xs < n
  place-lt v lt = omega (arith, place_of-lt v xs (stands v lt), p.size)

  at-place : (v : ℕ) → v < n → slice_index xs (place_of v xs) ≡ v
  at-place v lt = at-place_of v xs (stands v lt)

  place-at : (k : ℕ) → k < n → place_of (slice_index xs k) xs ≡ k
  place-at k lt =
      let v : ℕ = slice_index xs k in
      let low : v < n = at-permutation n xs p k lt in
      injective-permutation n xs p (place_of v xs) k (place-lt v low) lt (at-place v low)

  -- whether a piece stands at a place is whether the place is that of the piece
  same_place : (v k : ℕ) → v < n → k < n → eqb (slice_index xs k) v ≡ eqb k (place_of v xs)
  same_place v k lv lk = grind (arith, cases_eq, eq-eqb, at-place, ne_eqb, place-at)

  -- where a piece stands when the pieces are moved
  place_of-pick : (v : ℕ) (ks : List ℕ) → v < n → All (λ k. k < n) ks
      → place_of v (pick xs ks) ≡ place_of (place_of v xs) ks
  place_of-pick v [] lv below = refl
  place_of-pick v (k ∷ ks) lv below =
      ap (λ b. let m : ℕ = cond b 0 (suc (place_of v (pick xs ks))) in m) (same_place v k lv (All-head (λ z. z < n) k ks below))
      ∙ ap (λ i. let m : ℕ = cond (eqb k (place_of v xs)) 0 (suc i) in m) (place_of-pick v ks lv (All-tail (λ z. z < n) k ks below))

-- ---- pairings that moves carry along

module _ (ps xs : List ℕ) (h : IsPairing 8 ps) (p : IsPermutation 8 xs) where
  from : (k : ℕ) → k < 8 → slice_index xs k < 8
  from = at-permutation 8 xs p

  partner-below : (k : ℕ) → k < 8 → slice_index ps (slice_index xs k) < 8
  partner-below k lt = h.below (slice_index xs k) (from k lt)

  carried-at : (k : ℕ) → k < 8 → slice_index (carried_pairing ps xs) k ≡ place_of (slice_index ps (slice_index xs k)) xs
  unfolding carried_pairing
  carried-at k lt = get_or-map (λ place. place_of (slice_index ps place) xs) xs k 0 0 (omega (arith, p.size))

  -- the partner of what comes to a place comes to the place's partner
  partner-at : (k : ℕ) → k < 8 → slice_index xs (slice_index (carried_pairing ps xs) k) ≡ slice_index ps (slice_index xs k)
  partner-at k lt = grind (arith, carried-at, at-place, partner-below)

  pub IsPairing-carried : IsPairing 8 (carried_pairing ps xs)
  unfolding carried_pairing
  IsPairing-carried = record {
    size = length-map xs (λ place. place_of (slice_index ps place) xs) ∙ p.size;
    below = λ k lt. omega (arith, carried-at k lt, place-lt 8 xs p (slice_index ps (slice_index xs k)) (partner-below k lt));
    apart = λ k lt e. h.apart (slice_index xs k) (from k lt) (sym (partner-at k lt) ∙ ap (λ i. slice_index xs i) e);
    both = λ k lt.
        let partner : ℕ = slice_index ps (slice_index xs k) in
        ap (λ i. slice_index (carried_pairing ps xs) i) (carried-at k lt)
        ∙ carried-at (place_of partner xs) (place-lt 8 xs p partner (partner-below k lt))
        ∙ ap (λ i. place_of (slice_index ps i) xs) (at-place 8 xs p partner (partner-below k lt))
        ∙ ap (λ i. place_of i xs) (h.both (slice_index xs k) (from k lt)) ∙ place-at 8 xs p k lt;
  }

  -- one move after another
  carried-pick : (ks : List ℕ) → IsPermutation 8 ks
      → carried_pairing ps (pick xs ks) ≡ carried_pairing (carried_pairing ps xs) ks
  unfolding carried_pairing
  carried-pick ks q = carried ks (All-permutation 8 ks q)
    where
      carried : (ls : List ℕ) → All (λ l. l < 8) ls → map (λ place. place_of (slice_index ps place) (pick xs ks)) (pick xs ls)
          ≡ map (λ place. place_of (slice_index (carried_pairing ps xs) place) ks) ls
      carried [] below = refl
      carried (l ∷ ls) below =
          let low : l < 8 = All-head (λ z. z < 8) l ls below in
          let v : ℕ = slice_index ps (slice_index xs l) in
          let here : place_of v (pick xs ks) ≡ place_of (slice_index (carried_pairing ps xs) l) ks =
          place_of-pick 8 xs p v ks (partner-below l low) (All-permutation 8 ks q) ∙ ap (λ i. place_of i ks) (sym (carried-at l low)) in
          ap (λ i. i ∷ map (λ place. place_of (slice_index ps place) (pick xs ks)) (pick xs ls)) here
          ∙ ap (λ is. place_of (slice_index (carried_pairing ps xs) l) ks ∷ is) (carried ls (All-tail (λ z. z < 8) l ls below))

-- ---- mates

abbrev pub mate : ℕ → ℕ
mate piece = slice_index mates piece

IsPairing-mates : IsPairing 8 mates
IsPairing-mates = record {
  size = refl;
  below = λ k lt. ltb-true (mate k) 8 (at_each (λ i. nat_lt (mate i) 8) (λ i. true) 8 refl k lt);
  apart = λ k lt e. false≢true (sym (at_each (λ i. mate i == i) (λ i. false) 8 refl k lt) ∙ eq-eqb (mate k) k e);
  both = at_each (λ i. mate (mate i)) (λ i. i) 8 refl;
}

module _ (xs : List ℕ) (p : IsPermutation 8 xs) where
  -- the mate of the piece at a place stands at the place's partner
  pub mate-at : (k : ℕ) → k < 8 → slice_index xs (slice_index (pairing_of xs) k) ≡ mate (slice_index xs k)
  unfolding pairing_of carried_pairing
  mate-at = partner-at mates xs IsPairing-mates p

  pub IsPairing-of : IsPairing 8 (pairing_of xs)
  unfolding pairing_of carried_pairing
  IsPairing-of = IsPairing-carried mates xs IsPairing-mates p

  -- moves of the pieces carry it along
  pub pairing_of-pick : (ks : List ℕ) → IsPermutation 8 ks
      → pairing_of (pick xs ks) ≡ carried_pairing (pairing_of xs) ks
  unfolding pairing_of carried_pairing
  pairing_of-pick = carried-pick mates xs IsPairing-mates p

pub record IsOpposite (xs : List ℕ) : Type 0 where
  pub permutation : IsPermutation 8 xs
  pub paired : pairing_of xs ≡ mates

-- ---- the lists of all codes

pub record IsCoded (code : ℕ) : Type 0 where
  pub opposite : IsOpposite (code_at code)
  pub again : code_number (code_at code) ≡ code
  pub odd : parity (code_at code) ≡ row_parity code

pub IsCoded-below : (code : ℕ) → code < 384 → IsCoded code
unfolding code_at code_number paired_at pairing_of bits_number pairs_number permutation_at
IsCoded-below code lt = record {
  opposite = record {
    permutation = IsPermutation-from_test 8 (code_at code) (at_each (λ k. is_permutation 8 (code_at k)) (λ k. true) 384 refl code lt);
    paired = at_each (λ k. pairing_of (code_at k)) (λ k. mates) 384 refl code lt;
  };
  again = at_each (λ k. code_number (code_at k)) (λ k. k) 384 refl code lt;
  odd = at_each (λ k. parity (code_at k)) row_parity 384 refl code lt;
}

-- ---- rows of codes

pub row_parity-lt : (code : ℕ) → row_parity code < 2
row_parity-lt code = odd_lt _
  where
    odd_lt : (n : ℕ) → n % 2 < 2
    odd_lt n = omega arith

pub record IsRowPlace (r : ℕ) : Type 0 where
  pub code : code_in_row r < 384
  pub place : place_in_row (code_in_row r) ≡ r % 192
  pub row : row_parity (code_in_row r) ≡ r / 192

pub IsRowPlace-below : (r : ℕ) → r < 384 → IsRowPlace r
IsRowPlace-below r lt = record {
  code = ltb-true (code_in_row r) 384 (at_each (λ k. nat_lt (code_in_row k) 384) (λ k. true) 384 refl r lt);
  place = at_each (λ k. place_in_row (code_in_row k)) (λ k. k % 192) 384 refl r lt;
  row = at_each (λ k. row_parity (code_in_row k)) (λ k. k / 192) 384 refl r lt;
}

pub row-again : (code : ℕ) → code < 384 → code_in_row (place_in_row code + 192 * row_parity code) ≡ code
row-again = at_each (λ k. code_in_row (place_in_row k + 192 * row_parity k)) (λ k. k) 384 refl

-- ---- how numbers of lists are read

pub larger-lt : (k : ℕ) → k < 8 → slice_index is_larger k < 2
larger-lt k lt = ltb-true _ 2 (at_each (λ k. nat_lt (slice_index is_larger k) 2) (λ k. true) 8 refl k lt)

pub pair-lt : (k : ℕ) → k < 8 → slice_index pair_of k < 4
pair-lt k lt = ltb-true _ 4 (at_each (λ k. nat_lt (slice_index pair_of k) 4) (λ k. true) 8 refl k lt)

pub code-lt : (xs : List ℕ) → IsPermutation 8 xs → code_number xs < 384
unfolding code_number bits_number pairs_number
code-lt xs p =
    let larger = λ (k : ℕ) (lt : k < 8). larger-lt (slice_index xs k) (at-permutation 8 xs p k lt) in
    grind (arith, permutation_number-lt (pick pair_of (pick xs smaller)))

-- ---- all lists

-- the list with these pieces at the smaller places, and their mates at the larger
abbrev filled : ℕ → ℕ → ℕ → ℕ → List ℕ
filled a b c d = a ∷ b ∷ mate a ∷ mate b ∷ c ∷ d ∷ mate c ∷ mate d ∷ []

filled-of : (xs : List ℕ) → IsPermutation 8 xs → ((k : ℕ) → k < 8 → slice_index xs (mate k) ≡ mate (slice_index xs k))
    → filled (slice_index xs 0) (slice_index xs 1) (slice_index xs 4) (slice_index xs 5) ≡ xs
filled-of xs p m = grind (arith, pick-order)

-- the list of the code of a permutation, and a list that is none
abbrev list_again : List ℕ → List ℕ
list_again xs = cond (is_permutation 8 xs) (code_at (code_number xs)) xs

filled-again : (a b c d : ℕ) → a < 8 → b < 8 → c < 8 → d < 8 → list_again (filled a b c d) ≡ filled a b c d
unfolding code_at code_number paired_at bits_number pairs_number permutation_at
filled-again a b c d la lb lc ld =
    let eight : List ℕ = numbers_from 0 8 in
    at_both (λ k l. list_again (filled a b k l)) (filled a b) 8 8
    (at_both (λ i j. map (λ k. map (λ l. list_again (filled i j k l)) eight) eight) (λ i j. map (λ k. map (filled i j k) eight) eight) 8 8 refl a b la lb)
    c d lc ld

opposite-again : (xs : List ℕ) → IsOpposite xs → code_at (code_number xs) ≡ xs
opposite-again xs h =
    let p = h.permutation in
    let at = at-permutation 8 xs p in
    let full = filled-of xs p (λ k lt. ap (λ ys. slice_index xs (slice_index ys k)) (sym h.paired) ∙ mate-at xs p k lt) in
    sym (cond-true (is_permutation 8 xs) (code_at (code_number xs)) xs (is_permutation-true 8 xs p))
    ∙ subst (λ ys. list_again ys ≡ ys) full
    (filled-again (slice_index xs 0) (slice_index xs 1) (slice_index xs 4) (slice_index xs 5) (at 0 (lit< tt)) (at 1 (lit< tt)) (at 4 (lit< tt)) (at 5 (lit< tt)))

pub codes_one_to_one : IsOneToOne 384 code_at code_number IsOpposite
codes_one_to_one = record {
  valid = λ i lt. (IsCoded-below i lt).opposite;
  below = λ xs h. code-lt xs h.permutation;
  number_again = λ i lt. (IsCoded-below i lt).again;
  state_again = opposite-again;
}

-- a list is odd where its code is
pub parity-code : (xs : List ℕ) → IsOpposite xs → parity xs ≡ row_parity (code_number xs)
parity-code xs h = ap parity (sym (opposite-again xs h)) ∙ (IsCoded-below (code_number xs) (code-lt xs h.permutation)).odd

-- ---- as a coordinate

pub IsListView-codes : IsListView codes_view IsOpposite (λ turn. KeepsMates turn.pieces)
unfolding pairing_of
IsListView-codes = record {
  one_to_one = codes_one_to_one;
  turned = λ xs turn h k. record {
    permutation = IsPermutation-pick 8 xs turn.pieces h.permutation k.permutation;
    paired = pairing_of-pick xs h.permutation turn.pieces k.permutation ∙ ap (λ ps. carried_pairing ps turn.pieces) h.paired ∙ k.mates_kept;
  };
  goal = record { permutation = IsPermutation-numbers_from 8; paired = refl };
}

pub StaysBelow-code_lists : (letters : List (List ℕ)) → All KeepsMates letters
    → StaysBelow (projection codes_view (moves_of letters))
StaysBelow-code_lists letters each =
    StaysBelow-projection codes_view IsOpposite (λ turn. KeepsMates turn.pieces) (moves_of letters) IsListView-codes
    (All-map (λ turn. KeepsMates turn.pieces) move_by letters each)

-- ---- the pieces of a code, as the code makes them

-- the bits of a code
abbrev pub bits_of : ℕ → List ℕ
bits_of b = b % 2 ∷ b / 2 % 2 ∷ b / 2 / 2 % 2 ∷ b / 2 / 2 / 2 % 2 ∷ []

pub turned-lt : (b k : ℕ) → slice_index (bits_of b) k < 2
turned-lt b k = grind arith

pub pieces-are : (code : ℕ) (standing pieces : List ℕ) → standing ≡ permutation_at 4 (code / 16) → length pieces ≡ 8
    → ((k : ℕ) → k < 8 → slice_index pieces k ≡ slice_index smaller (slice_index standing (slice_index pair_of k))
    + 2 * ((slice_index (bits_of (code % 16)) (slice_index pair_of k) + slice_index is_larger k) % 2)) → pieces ≡ code_at code
unfolding code_at paired_at
pieces-are code standing pieces is size filled =
    let at : List ℕ → ℕ → ℕ = λ st k. slice_index smaller (slice_index st (slice_index pair_of k))
    + 2 * ((slice_index (bits_of (code % 16)) (slice_index pair_of k) + slice_index is_larger k) % 2) in
    numbers_all (at (permutation_at 4 (code / 16))) 8 pieces 0 size (λ k lt. filled k lt ∙ ap (λ st. at st k) is)
