-- What is so of each of the 24 holds, computed over all of them.
use Rattle.std.proofs.Common.{◌≡◌, ℕ, zero, suc, ◌+◌, ◌<◌, ◌≤◌, true, List, [], ◌∷◌, get_or, length, refl, sym, ap, ◌∙◌, subst, add-one, arith, leb-true, zero-add, ltb-true}
use Rattle.std.specs.Prelude.{◌==◌, if◌then◌else◌, Contains, map, nat_le, nat_lt, position, slice_index, slice_index_or, unwrap_or}
use Rattle.std.specs.List.{list_all, list_any, range_with_len}
use Rattle.std.specs.Str.{bytes_eq}
use Rattle.std.proofs.lemmas.List.{get_or-map}
use Rattle.std.proofs.lemmas.List.FromFn.{get_or-map-range_with_len}
use Rattle.std.proofs.lemmas.Map.Views.{Contains-from_any}
use Rattle.std.proofs.lemmas.Slice.Eq.{bytes_eq-Decides}
use Rattle.scr_combinatorics.specs.Back.{back}
use Rattle.scr_combinatorics.specs.Lists.{numbers_from, pick}
use Rattle.scr_combinatorics.specs.Permutations.{place_of}
use Rattle.scr_combinatorics.proofs.Picks.{numbers_from-at}
use Rattle.scr_notation.specs.declared.event.Event.TheVariants.{Bf333}
use Rattle.scr_notation.specs.declared.turn.Turn.{Turn}
use Rattle.scr_notation.specs.Turning.{opposite}
use Rattle.scr_notation.specs.Turns.{permits}
use Rattle.scr_cube.specs.declared.held.TheConstants.{HOLDS}
use Rattle.scr_cube.specs.Held.{whole_quarters, whole_turned, centres_after, faces_turned, hold_word, hold_centres, holds, hold_of}
use Rattle.scr_cube.specs.Stickers.{opposite_place}
use Rattle.scr_cube.proofs.OnLiterals.{held_on_literals}

-- ---- what a turn of so many layers at a place turns

-- the face, and the centres after it
abbrev pub turned_face : List ℕ → ℕ → ℕ → ℕ
turned_face centres place depth = slice_index centres (if depth == 1 then place else opposite_place place)

abbrev pub centres_turned : List ℕ → ℕ → ℕ → ℕ → List ℕ
centres_turned centres place depth amount = if depth == 1 then centres else whole_turned place centres amount

-- ---- functions that agree on listed numbers

pub at_each : {X : Type 0} (f g : ℕ → X) (n : ℕ) → map f (range_with_len 0 n) ≡ map g (range_with_len 0 n) → (k : ℕ)
    → k < n → f k ≡ g k
at_each f g n e k lt =
    sym (get_or-map-range_with_len f 0 n k k (f k) lt (zero-add k)) ∙ ap (λ xs. get_or xs k (f k)) e
    ∙ get_or-map-range_with_len g 0 n k k (f k) lt (zero-add k)

pub at_both : {X : Type 0} (f g : ℕ → ℕ → X) (m n : ℕ)
    → map (λ i. map (f i) (range_with_len 0 n)) (range_with_len 0 m) ≡ map (λ i. map (g i) (range_with_len 0 n)) (range_with_len 0 m)
    → (i k : ℕ) → i < m → k < n → f i k ≡ g i k
at_both f g m n e i k low lt =
    at_each (f i) (g i) n (at_each (λ i. map (f i) (range_with_len 0 n)) (λ i. map (g i) (range_with_len 0 n)) m e i low) k lt

-- ---- the centres of the holds

pub holds-are : holds ≡ HOLDS
unfolding held_on_literals holds
holds-are = refl

abbrev listed : ℕ → List ℕ
listed hold = slice_index_or HOLDS hold []

pub hold_centres-are : (hold : ℕ) → hold < 24 → hold_centres hold ≡ slice_index_or HOLDS hold []
unfolding holds
hold_centres-are = at_each hold_centres listed 24 holds-are

-- centres of a hold, by its number
pub record HasNumber (centres : List ℕ) : Type 0 where
  pub number : ℕ
  pub below : number < 24
  pub is : hold_centres number ≡ centres

at_hold : (hold : ℕ) (d : List ℕ) → hold < 24 → get_or holds hold d ≡ hold_centres hold
unfolding holds
at_hold hold d lt =
    get_or-map hold_centres (numbers_from 0 24) hold 0 d lt ∙ ap hold_centres (numbers_from-at 0 24 hold lt ∙ zero-add hold)

pub HasNumber-hold : (centres : List ℕ) → Contains holds centres → HasNumber centres
unfolding holds
HasNumber-hold centres there =
    let below : there.0 < 24 = there.1 in
    record { number = there.0; below = below; is = sym (at_hold there.0 centres below) ∙ there.2 }

pub Contains-hold : (hold : ℕ) → hold < 24 → Contains holds (hold_centres hold)
unfolding holds
Contains-hold hold lt = (hold, lt, at_hold hold (hold_centres hold) lt)

-- what is so of the centres of each hold
pub of_holds : (P : List ℕ → Type 0) → ((hold : ℕ) → hold < 24 → P (slice_index_or HOLDS hold [])) → (centres : List ℕ)
    → Contains holds centres → P centres
of_holds P each centres there =
    let n = HasNumber-hold centres there in
    subst P (sym (hold_centres-are n.number n.below) ∙ n.is) (each n.number n.below)

-- the number of a hold is that of its centres
number_in : List (List ℕ) → List ℕ → ℕ
number_in all centres = unwrap_or (position (λ hold. bytes_eq hold centres) all) 0

pub hold_of-hold : (hold : ℕ) → hold < 24 → hold_of (hold_centres hold) ≡ hold
unfolding hold_of number_in
hold_of-hold hold lt =
    ap hold_of (hold_centres-are hold lt) ∙ ap (λ all. number_in all (listed hold)) holds-are
    ∙ at_each (λ n. number_in HOLDS (listed n)) (λ n. n) 24 refl hold lt

pub hold_of-lt : (centres : List ℕ) → Contains holds centres → hold_of centres < 24
hold_of-lt centres there =
    let n = HasNumber-hold centres there in
    let P : ℕ → Type 0 = λ k. k < 24 in
    subst P (sym (hold_of-hold n.number n.below) ∙ ap hold_of n.is) n.below

pub hold_centres-of : (centres : List ℕ) → Contains holds centres → hold_centres (hold_of centres) ≡ centres
hold_centres-of centres there =
    let n = HasNumber-hold centres there in
    ap hold_centres (sym (ap hold_of n.is) ∙ hold_of-hold n.number n.below) ∙ n.is

-- ---- each centre has one place

pub centre-lt : (k : ℕ) → k < 6 → (centres : List ℕ) → Contains holds centres → slice_index centres k < 6
centre-lt k low =
    of_holds (λ centres. slice_index centres k < 6)
    (λ hold lt. ltb-true _ 6 (at_both (λ hold k. nat_lt (slice_index (listed hold) k) 6) (λ hold k. true) 24 6 refl hold k lt low))

pub centre_place-lt : (face : ℕ) → face < 6 → (centres : List ℕ) → Contains holds centres → place_of face centres < 6
centre_place-lt face low =
    of_holds (λ centres. place_of face centres < 6)
    (λ hold lt. ltb-true _ 6 (at_both (λ hold face. nat_lt (place_of face (listed hold)) 6) (λ hold face. true) 24 6 refl hold face lt low))

pub centre_place-is : (face : ℕ) → face < 6 → (centres : List ℕ) → Contains holds centres
    → slice_index centres (place_of face centres) ≡ face
centre_place-is face low =
    of_holds (λ centres. slice_index centres (place_of face centres) ≡ face)
    (λ hold lt. at_both (λ hold face. slice_index (listed hold) (place_of face (listed hold))) (λ hold face. face) 24 6 refl hold face lt low)

-- in the hold of the solved cube each at its own
pub own-place : (face : ℕ) → face < 6 → place_of face (numbers_from 0 6) ≡ face
own-place = at_each (λ face. place_of face (numbers_from 0 6)) (λ face. face) 6 refl

-- ---- the whole cube turned

abbrev pub quarter_turned : ℕ → List ℕ → List ℕ
quarter_turned place centres = pick centres (slice_index_or whole_quarters place [])

Contains-listed : (centres : List ℕ) → list_any (bytes_eq centres) HOLDS ≡ true → Contains holds centres
Contains-listed centres e =
    subst (λ all. Contains all centres) (sym holds-are) (Contains-from_any (λ x y. (bytes_eq-Decides x y).0) centres HOLDS e)

Contains-quarter : (place : ℕ) → place < 3 → (centres : List ℕ) → Contains holds centres
    → Contains holds (quarter_turned place centres)
Contains-quarter place low =
    of_holds (λ centres. Contains holds (quarter_turned place centres))
    (λ hold lt. Contains-listed (quarter_turned place (listed hold))
    (at_both (λ place hold. list_any (bytes_eq (quarter_turned place (listed hold))) HOLDS) (λ place hold. true) 3 24 refl place hold low lt))

-- a whole turn leads from hold to hold
pub Contains-whole : (place : ℕ) (centres : List ℕ) (n : ℕ) → place < 3 → Contains holds centres
    → Contains holds (whole_turned place centres n)
unfolding whole_turned
Contains-whole place centres zero low there = there
Contains-whole place centres (suc n) low there =
    Contains-quarter place low (whole_turned place centres n) (Contains-whole place centres n low there)

-- about an axis that stays
pub axis-kept : (place : ℕ) (centres : List ℕ) (n : ℕ) → place < 3 → Contains holds centres
    → slice_index (whole_turned place centres n) (opposite_place place) ≡ slice_index centres (opposite_place place)
unfolding whole_turned
axis-kept place centres zero low there = refl
axis-kept place centres (suc n) low there =
    of_holds (λ c. slice_index (quarter_turned place c) (opposite_place place) ≡ slice_index c (opposite_place place))
    (λ hold lt. at_both (λ place hold. slice_index (quarter_turned place (listed hold)) (opposite_place place))
    (λ place hold. slice_index (listed hold) (opposite_place place)) 3 24 refl place hold low lt)
    (whole_turned place centres n) (Contains-whole place centres n low there)
    ∙ axis-kept place centres n low there

-- no turn moves none
pub whole_turned-none : (place : ℕ) (centres : List ℕ) → whole_turned place centres 0 ≡ centres
unfolding whole_turned
whole_turned-none place centres = refl

-- and one turn more
pub whole_turned-more : (place : ℕ) (centres : List ℕ) (n : ℕ)
    → quarter_turned place (whole_turned place centres n) ≡ whole_turned place centres (n + 1)
unfolding whole_turned
whole_turned-more place centres n = ap (whole_turned place centres) (sym (add-one n))

-- turns add up
pub whole_turned-add : (place : ℕ) (centres : List ℕ) (n m : ℕ)
    → whole_turned place (whole_turned place centres n) m ≡ whole_turned place centres (n + m)
unfolding whole_turned
whole_turned-add place centres n zero = ap (whole_turned place centres) (let e : n ≡ n + zero = omega arith in e)
whole_turned-add place centres n (suc m) =
    ap (quarter_turned place) (whole_turned-add place centres n m) ∙ ap (whole_turned place centres) (let e : suc (n + m) ≡ n + suc m = omega arith in e)

-- and four are none
pub whole_turned-four : (place : ℕ) (centres : List ℕ) → place < 3 → Contains holds centres
    → whole_turned place centres 4 ≡ centres
unfolding whole_turned
whole_turned-four place centres low there =
    of_holds (λ c. whole_turned place c 4 ≡ c)
    (λ hold lt. at_both (λ place hold. whole_turned place (listed hold) 4) (λ place hold. listed hold) 3 24 refl place hold low lt) centres there

-- ---- the words of the holds

-- the centres after a word
unfoldable pub centres_played : List ℕ → List Turn → List ℕ
centres_played centres [] = centres
centres_played centres (t ∷ w) = centres_played (centres_after centres t) w

-- A hold's word has two turns at most. Taken back it is of turns, whose opposites are the word's own; it leads back to
-- the centres of the solved cube, and turns back the faces that the word turned.
pub record IsHoldWord (hold : ℕ) : Type 0 where
  pub short : length (hold_word hold) ≤ 2
  pub back_turns : list_all (permits Bf333) (back opposite (hold_word hold)) ≡ true
  pub again : back opposite (back opposite (hold_word hold)) ≡ hold_word hold
  pub centres : centres_played (hold_centres hold) (back opposite (hold_word hold)) ≡ numbers_from 0 6
  pub faces : faces_turned (hold_centres hold) (back opposite (hold_word hold)) ≡ back opposite (faces_turned (numbers_from 0 6) (hold_word hold))

pub IsHoldWord-each : (hold : ℕ) → hold < 24 → IsHoldWord hold
unfolding held_on_literals centres_played
IsHoldWord-each hold lt =
    let are = hold_centres-are hold lt in
    record {
      short = leb-true _ 2 (at_each (λ n. nat_le (length (hold_word n)) 2) (λ n. true) 24 refl hold lt);
      back_turns = at_each (λ n. list_all (permits Bf333) (back opposite (hold_word n))) (λ n. true) 24 refl hold lt;
      again = at_each (λ n. back opposite (back opposite (hold_word n))) hold_word 24 refl hold lt;
      centres = ap (λ c. centres_played c (back opposite (hold_word hold))) are
          ∙ at_each (λ n. centres_played (listed n) (back opposite (hold_word n))) (λ n. numbers_from 0 6) 24 refl hold lt;
      faces = ap (λ c. faces_turned c (back opposite (hold_word hold))) are
          ∙ at_each (λ n. faces_turned (listed n) (back opposite (hold_word n))) (λ n. back opposite (faces_turned (numbers_from 0 6) (hold_word n))) 24 refl hold lt;
    }
