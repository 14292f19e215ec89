-- The numbers of Skewbs: one for each.
use Rattle.std.proofs.Common.{◌≡◌, ℕ, zero, suc, ◌+◌, ◌-◌, ◌/◌, ◌%◌, ◌<◌, Bool, List, [], ◌∷◌, ◌++◌, length, replicate, slice_index, refl, sym, ap, ◌∙◌, arith, lit≤, lit<, ltb-true}
use Rattle.std.specs.Prelude.{All, nat_lt}
use Rattle.std.specs.Str.{bytes_eq}
use Rattle.std.proofs.lemmas.Slice.Eq.{bytes_eq-Decides}
use Rattle.std.proofs.lemmas.Nat.{mod_below}
use Rattle.std.proofs.lemmas.List.Elements.{All-push, All-head, All-tail}
use Rattle.scr_combinatorics.specs.Lists.{total}
use Rattle.scr_combinatorics.specs.Permutations.{permutation_number, permutation_at, half_at}
use Rattle.scr_combinatorics.specs.Digits.{product, AreDigits, mixed_number, mixed_digits}
use Rattle.scr_combinatorics.specs.Numbering.{IsNumbering}
use Rattle.scr_combinatorics.proofs.Halves.{half_lt, IsHalf-half_at, half_at-number}
use Rattle.scr_combinatorics.proofs.Digits.{AreDigits-mixed_digits, AreDigits-replicate, begins_with_all, first_number-lt, mixed_number-lt, mixed_number-mixed_digits, mixed_digits-mixed_number, by_four_digits}
use Rattle.scr_combinatorics.proofs.Twists.{total-push, completed}
use Rattle.scr_combinatorics.proofs.Numberings.{GivesState, numbering_by_digits}
use Rattle.scr_combinatorics.proofs.EvenLists.{IsEvenPermutation, passes_all, test-even}
use Rattle.scr_orbit.specs.Orbits.{zeros}
use Rattle.scr_orbit.proofs.DigitLaws.{All-zeros}
use Rattle.scr_orbit.proofs.OrbitLaws.{same_orbit}
use Rattle.scr_orbit.proofs.Parts.{ap_three}
use Rattle.scr_tetra.specs.Skewb.{SkewbState, class_of, completing, IsSkewb, skewb_digits, skewb_of_digits, skewb_numbered}

abbrev four_bases : List ℕ
four_bases = 3 ∷ 3 ∷ 3 ∷ 3 ∷ []

abbrev two_bases : List ℕ
two_bases = 3 ∷ 3 ∷ []

-- ---- the even lists of the three, and the classes of the four

-- the even list of the three with number k begins with k
begins_with : (k : ℕ) → k < 3 → slice_index (half_at 3 0 k) 0 ≡ k
unfolding half_at permutation_at
begins_with zero lt = refl
begins_with (suc zero) lt = refl
begins_with (suc (suc zero)) lt = refl
begins_with (suc (suc (suc k))) lt = absurd (omega arith)

begins_low : List ℕ → Bool
begins_low ps = nat_lt (slice_index ps 0) 3

pub first_below : (ps : List ℕ) → IsEvenPermutation 3 ps → slice_index ps 0 < 3
unfolding begins_low passes_all half_at permutation_at
first_below ps h = ltb-true (slice_index ps 0) 3 (test-even begins_low 3 ps (lit< tt) refl h)

told_by_first : List ℕ → Bool
told_by_first ps = bytes_eq (half_at 3 0 (slice_index ps 0)) ps

-- and an even list is told by what it begins with
by_first : (ps : List ℕ) → IsEvenPermutation 3 ps → half_at 3 0 (slice_index ps 0) ≡ ps
unfolding told_by_first passes_all half_at permutation_at
by_first ps h =
    let same : List ℕ = half_at 3 0 (slice_index ps 0) in
    (bytes_eq-Decides same ps).0 (test-even told_by_first 3 ps (lit< tt) refl h)

-- a class is 0, 1 or 2
class_low : List ℕ → Bool
class_low ps = nat_lt (class_of ps) 3

pub class_below : (ps : List ℕ) → IsEvenPermutation 4 ps → class_of ps < 3
unfolding class_low passes_all half_at permutation_at
class_below ps h = ltb-true (class_of ps) 3 (test-even class_low 4 ps (lit< tt) refl h)

-- ---- digits that complete a sum

completing-below : (sum : ℕ) → completing sum < 3
completing-below sum = mod_below (3 - sum % 3) 3 (lit< tt)

completing-sum : (sum : ℕ) → (sum + completing sum) % 3 ≡ 0
completing-sum sum = completed sum 3 (lit< tt)

-- no other digit does
completing-only : (sum d : ℕ) → d < 3 → (sum + d) % 3 ≡ 0 → completing sum ≡ d
completing-only sum d lt e = omega (arith, e)

-- ---- a state of four numbers

abbrev pub skewb_bases : List ℕ
skewb_bases = 81 ∷ 9 ∷ 12 ∷ 360 ∷ []

abbrev Gives : List ℕ → Type 0
Gives = GivesState skewb_bases skewb_of_digits skewb_digits IsSkewb

twists_below : (n t : ℕ) → 0 < product (replicate n 3) → All (λ d. d < 3) (mixed_digits (replicate n 3) t)
twists_below n t pos = ((AreDigits-replicate n 3 (mixed_digits (replicate n 3) t)).0 (AreDigits-mixed_digits (replicate n 3) t pos)).1

state_of_four : (t w f c : ℕ) → t < 81 → w < 9 → f < 12 → c < 360 → Gives (t ∷ w ∷ f ∷ c ∷ [])
unfolding skewb_of_digits skewb_digits
state_of_four t w f c lt lw lf lc =
    let twists : List ℕ = mixed_digits four_bases t in
    let two : List ℕ = mixed_digits two_bases w in
    let first : ℕ = completing (total twists) in
    let four = IsHalf-half_at 4 0 f lf (lit< tt) in
    let three = IsHalf-half_at 3 0 first (completing-below (total twists)) (lit< tt) in
    let centres = IsHalf-half_at 6 0 c lc (lit< tt) in
    let class : ℕ = class_of (half_at 4 0 f) in
    let last : ℕ = completing (total two + class) in
    record {
      valid = record {
        four = record { pieces = four.permutation; size = refl; below = twists_below 4 t (lit< tt) };
        three = record {
          pieces = three.permutation;
          size = refl;
          below = All-push (λ d. d < 3) two last (twists_below 2 w (lit< tt)) (completing-below (total two + class));
        };
        centres = record { pieces = centres.permutation; size = refl; below = All-zeros 1 6 (lit< tt) };
        even_four = four.same_parity;
        even_three = three.same_parity;
        even_centres = centres.same_parity;
        twists_of_three =
            ap (λ s. (s + class) % 3) (total-push two last) ∙ ap (λ s. s % 3) (regrouped (total two) last class) ∙ completing-sum (total two + class);
        twists_of_four = ap (λ k. (total twists + k) % 3) (begins_with first (completing-below (total twists))) ∙ completing-sum (total twists);
      };
      again = ap (λ x. x ∷ mixed_number two_bases two ∷ permutation_number (half_at 4 0 f) / 2 ∷ permutation_number (half_at 6 0 c) / 2 ∷ [])
          (mixed_number-mixed_digits four_bases t (lit< tt) lt)
          ∙ ap (λ x. t ∷ x ∷ permutation_number (half_at 4 0 f) / 2 ∷ permutation_number (half_at 6 0 c) / 2 ∷ []) (mixed_number-mixed_digits two_bases w (lit< tt) lw)
          ∙ ap (λ x. t ∷ w ∷ x ∷ permutation_number (half_at 6 0 c) / 2 ∷ []) four.number
          ∙ ap (λ x. t ∷ w ∷ f ∷ x ∷ []) centres.number;
    }
  where
    regrouped : (a b d : ℕ) → a + b + d ≡ a + d + b
    regrouped a b d = omega arith

-- ---- the four numbers of a state

-- the last of three digits is told by the others
three_again : (ds : List ℕ) (class : ℕ) → length ds ≡ 3 → All (λ d. d < 3) ds → (total ds + class) % 3 ≡ 0
    → mixed_digits two_bases (mixed_number two_bases ds) ++ completing (total (mixed_digits two_bases (mixed_number two_bases ds)) + class) ∷ [] ≡ ds
three_again (a ∷ b ∷ c ∷ []) class size below sum =
    let la : a < 3 = below 0 0 (lit< tt) in
    let lb : b < 3 = below 1 0 (lit< tt) in
    let lc : c < 3 = below 2 0 (lit< tt) in
    let two : mixed_digits two_bases (mixed_number two_bases (a ∷ b ∷ [])) ≡ a ∷ b ∷ [] =
    mixed_digits-mixed_number two_bases (a ∷ b ∷ []) (lit< tt) (la, (lb, tt)) in
    ap (λ xs. xs ++ completing (total xs + class) ∷ []) two
    ∙ ap (λ d. a ∷ b ∷ d ∷ []) (completing-only (a + (b + 0) + class) c lc (ap (λ s. s % 3) (regrouped a b c class) ∙ sum))
  where
    regrouped : (a b c d : ℕ) → a + (b + 0) + d + c ≡ a + (b + (c + 0)) + d
    regrouped a b c d = omega arith
three_again _ class size below sum = absurd (omega (arith, size))

-- digits modulo 1 are zeros
zeros-below : (ds : List ℕ) → All (λ d. d < 1) ds → zeros (length ds) ≡ ds
zeros-below [] below = refl
zeros-below (d ∷ ds) below =
    let none : 0 ≡ d = omega (arith, All-head (λ d. d < 1) d ds below) in
    ap (λ x. x ∷ zeros (length ds)) none ∙ ap (λ xs. d ∷ xs) (zeros-below ds (All-tail (λ d. d < 1) d ds below))

pub same_skewb : (s t : SkewbState) → s.four ≡ t.four → s.three ≡ t.three → s.centres ≡ t.centres → s ≡ t
same_skewb s t a b c = ap_three (λ four three centres. record { four = four; three = three; centres = centres }) a b c

pub AreDigits-skewb : (s : SkewbState) → IsSkewb s → AreDigits skewb_bases (skewb_digits s)
unfolding skewb_digits
AreDigits-skewb s h = (
  mixed_number-lt four_bases s.four.digits ((AreDigits-replicate 4 3 s.four.digits).1 (h.four.size, h.four.below)),
  (
    first_number-lt two_bases s.three.digits (begins_with_all 2 3 s.three.digits (omega (arith, h.three.size)) h.three.below),
    (half_lt 4 s.four.pieces (lit≤ tt) h.four.pieces, (half_lt 6 s.centres.pieces (lit≤ tt) h.centres.pieces, tt)),
  ),
)

skewb_of_digits-digits : (s : SkewbState) → IsSkewb s → skewb_of_digits (skewb_digits s) ≡ s
unfolding skewb_digits skewb_of_digits
skewb_of_digits-digits s h =
    let twists : mixed_digits four_bases (mixed_number four_bases s.four.digits) ≡ s.four.digits =
    mixed_digits-mixed_number four_bases s.four.digits (lit< tt) ((AreDigits-replicate 4 3 s.four.digits).1 (h.four.size, h.four.below)) in
    let four : half_at 4 0 (permutation_number s.four.pieces / 2) ≡ s.four.pieces =
    ap (λ odd. half_at 4 odd (permutation_number s.four.pieces / 2)) (sym h.even_four) ∙ half_at-number 4 s.four.pieces (lit< tt) h.four.pieces in
    let centres : half_at 6 0 (permutation_number s.centres.pieces / 2) ≡ s.centres.pieces =
    ap (λ odd. half_at 6 odd (permutation_number s.centres.pieces / 2)) (sym h.even_centres) ∙ half_at-number 6 s.centres.pieces (lit< tt) h.centres.pieces in
    let even : IsEvenPermutation 3 s.three.pieces = record { permutation = h.three.pieces; even = h.even_three } in
    let three =
    ap (λ ds. half_at 3 0 (completing (total ds))) twists
    ∙ ap (half_at 3 0) (completing-only (total s.four.digits) (slice_index s.three.pieces 0) (first_below s.three.pieces even) h.twists_of_four)
    ∙ by_first s.three.pieces even in
    let last =
    ap (λ ps. mixed_digits two_bases (mixed_number two_bases s.three.digits)
    ++ completing (total (mixed_digits two_bases (mixed_number two_bases s.three.digits)) + class_of ps) ∷ []) four
    ∙ three_again s.three.digits (class_of s.four.pieces) h.three.size h.three.below h.twists_of_three in
    let still : zeros 6 ≡ s.centres.digits = ap zeros (sym h.centres.size) ∙ zeros-below s.centres.digits h.centres.below in
    same_skewb _ s (same_orbit _ s.four four twists) (same_orbit _ s.three three last) (same_orbit _ s.centres centres still)

-- Skewbs are numbered by the numbers below the count, one for each
pub skewb_numbering : IsNumbering skewb_numbered
skewb_numbering =
    numbering_by_digits skewb_bases skewb_of_digits skewb_digits IsSkewb (lit≤ tt) (lit≤ tt) (by_four_digits Gives 81 9 12 360 state_of_four)
    (λ s h. record { below = AreDigits-skewb s h; again = skewb_of_digits-digits s h })
