-- The thirteen halves are all the ways to fill six units; which half six units are is told by the bits of their
-- corners.
use Rattle.std.proofs.Common.{rules}
use Rattle.std.proofs.Common.{◌≡◌, ℕ, zero, suc, ◌<◌, ◌≤◌, Bool, true, false, IsTrue, cond, List, [], ◌∷◌, map, length, take, drop, slice_index, refl, sym, ap, ◌∙◌, arith, eqb-true, eq-eqb}
use Rattle.std.proofs.lemmas.Bool.Decides.{nat_tests}
use Rattle.std.specs.Prelude.{◌+◌, ◌*◌, ◌&&◌, ◌==◌, nat_lt}
use Rattle.std.specs.List.{position_or_len}
use Rattle.std.specs.Str.{bytes_eq}
use Rattle.std.proofs.lemmas.List.{drop-drop}
use Rattle.std.proofs.lemmas.Bool.{and_parts, cond-true, ltb-true, false≢true}
use Rattle.scr_notation.specs.Ranges.{all_below}
use Rattle.scr_notation.proofs.Below.{at_below}
use Rattle.scr_combinatorics.specs.Permutations.{place_of}
use Rattle.scr_sq1.specs.Units.{is_corner}
use Rattle.scr_sq1.specs.Shapes.{half_words, half_word, pieces_in, corners_among, corner_counts, half_of, shape_of, units_among}

-- how many corners a half has
abbrev pub corner_count : ℕ → ℕ
corner_count h = slice_index corner_counts h

-- which units are of corners, of those that some pieces fill, as a number in base 2
abbrev pub word_bits : List Bool → ℕ
word_bits [] = 0
word_bits (true ∷ w) = 3 + 4 * word_bits w
word_bits (false ∷ w) = 2 * word_bits w

-- the same of units, where digit k is that of unit k
abbrev pub corner_bits : List ℕ → ℕ
corner_bits [] = 0
corner_bits (u ∷ us) = cond (is_corner u) 1 0 + 2 * corner_bits us

unfoldable pub half_bits : List ℕ
half_bits = map (λ word. word_bits (pieces_in word)) half_words

-- a test of every word of at most so many pieces
every_word : ℕ → (List Bool → Bool) → Bool
every_word zero p = p []
every_word (suc n) p = p [] && (every_word n (λ w. p (true ∷ w)) && every_word n (λ w. p (false ∷ w)))

every_word-at : (n : ℕ) (p : List Bool → Bool) → IsTrue (every_word n p) → (w : List Bool) → length w ≤ n → IsTrue (p w)
unfolding every_word
every_word-at zero p h [] le = h
every_word-at zero p h (b ∷ w) le = absurd (omega arith)
every_word-at (suc n) p h [] le = search (arith, rules, and_parts, every_word)
every_word-at (suc n) p h (true ∷ w) le =
    let rest = (and_parts (p []) (every_word n (λ w. p (true ∷ w)) && every_word n (λ w. p (false ∷ w))) h).1 in
    every_word-at n (λ w. p (true ∷ w)) (and_parts (every_word n (λ w. p (true ∷ w))) (every_word n (λ w. p (false ∷ w))) rest).0 w (omega arith)
every_word-at (suc n) p h (false ∷ w) le =
    let rest = (and_parts (p []) (every_word n (λ w. p (true ∷ w)) && every_word n (λ w. p (false ∷ w))) h).1 in
    every_word-at n (λ w. p (false ∷ w)) (and_parts (every_word n (λ w. p (true ∷ w))) (every_word n (λ w. p (false ∷ w))) rest).1 w (omega arith)

-- two words are the same
unfoldable pub same_word : List Bool → List Bool → Bool
same_word [] [] = true
same_word [] (b ∷ w) = false
same_word (b ∷ v) [] = false
same_word (true ∷ v) (true ∷ w) = same_word v w
same_word (true ∷ v) (false ∷ w) = false
same_word (false ∷ v) (true ∷ w) = false
same_word (false ∷ v) (false ∷ w) = same_word v w

pub same_word-true : (v w : List Bool) → IsTrue (same_word v w) → v ≡ w
unfolding same_word
same_word-true [] [] h = refl
same_word-true (true ∷ v) (true ∷ w) h = ap (λ x. true ∷ x) (same_word-true v w h)
same_word-true (false ∷ v) (false ∷ w) h = ap (λ x. false ∷ x) (same_word-true v w h)
same_word-true _ _ h = absurd (false≢true h)

-- a word has no more pieces than units
length_le : (w : List Bool) → length w ≤ units_among w
length_le [] = omega arith
length_le (true ∷ w) = omega (arith, length_le w)
length_le (false ∷ w) = omega (arith, length_le w)

-- the number of the half that a word is
abbrev pub half_of_word : List Bool → ℕ
half_of_word w = place_of (word_bits w) half_bits

is_half : List Bool → Bool
is_half w = nat_lt (half_of_word w) 13 && same_word (half_word (half_of_word w)) w

all_halves : IsTrue (every_word 6 (λ w. cond (units_among w == 6) (is_half w) true))
unfolding every_word same_word is_half half_words half_word half_bits
all_halves = refl

pub record IsHalf (w : List Bool) : Type 0 where
  pub below : half_of_word w < 13
  pub again : half_word (half_of_word w) ≡ w

pub IsHalf-word : (w : List Bool) → units_among w ≡ 6 → IsHalf w
unfolding is_half
IsHalf-word w six =
    let p : List Bool → Bool = λ w. cond (units_among w == 6) (is_half w) true in
    let here : IsTrue (is_half w) =
    sym (cond-true (units_among w == 6) (is_half w) true (eq-eqb (units_among w) 6 six)) ∙ every_word-at 6 p all_halves w (omega (arith, length_le w)) in
    let both = and_parts (nat_lt (half_of_word w) 13) (same_word (half_word (half_of_word w)) w) here in
    record { below = ltb-true (half_of_word w) 13 both.0; again = same_word-true (half_word (half_of_word w)) w both.1 }

-- ---- the halves by their numbers

known_half : ℕ → Bool
known_half h =
    (half_of_word (half_word h) == h) && ((units_among (half_word h) == 6) && (corner_count h == corners_among (half_word h)))

known_halves : IsTrue (all_below known_half 13)
unfolding all_below known_half half_words half_word half_bits corner_counts
known_halves = refl

pub record IsKnownHalf (h : ℕ) : Type 0 where
  pub number : half_of_word (half_word h) ≡ h
  pub six : units_among (half_word h) ≡ 6
  pub corners : corner_count h ≡ corners_among (half_word h)

pub IsKnownHalf-below : (h : ℕ) → h < 13 → IsKnownHalf h
unfolding known_half
IsKnownHalf-below h lt =
    let both = and_parts (half_of_word (half_word h) == h) ((units_among (half_word h) == 6) && (corner_count h == corners_among (half_word h)))
    (at_below known_half 13 h known_halves lt) in
    let rest = and_parts (units_among (half_word h) == 6) (corner_count h == corners_among (half_word h)) both.1 in omega (arith, eqb-true)

-- ---- the half that six units are

-- which half these are, where each unit is of a corner or not: by letters, and by bits
abbrev letters_half : List Bool → ℕ
letters_half w = position_or_len (bytes_eq (map (λ b. cond b 99 101) w)) half_words

abbrev bits_of : List Bool → ℕ
bits_of [] = 0
bits_of (b ∷ w) = cond b 1 0 + 2 * bits_of w

is_same_half : List Bool → Bool
is_same_half w = letters_half w == place_of (bits_of w) half_bits

all_same_halves : IsTrue (every_word 6 (λ w. cond (length w == 6) (is_same_half w) true))
unfolding every_word is_same_half half_words half_bits
all_same_halves = refl

same_half : (w : List Bool) → length w ≡ 6 → letters_half w ≡ place_of (bits_of w) half_bits
unfolding is_same_half
same_half w six = grind (arith, nat_tests, every_word-at, all_same_halves)

-- the letters of units
abbrev pub letters_of : List ℕ → List ℕ
letters_of units = map (λ piece. cond (is_corner piece) 99 101) units

letters-corners : (units : List ℕ) → letters_of units ≡ map (λ b. cond b 99 101) (map is_corner units)
letters-corners [] = refl
letters-corners (u ∷ us) = ap (λ xs. cond (is_corner u) 99 101 ∷ xs) (letters-corners us)

bits-corners : (units : List ℕ) → corner_bits units ≡ bits_of (map is_corner units)
bits-corners [] = refl
bits-corners (u ∷ us) = ap (λ n. cond (is_corner u) 1 0 + 2 * n) (bits-corners us)

length-corners : (units : List ℕ) → length (map is_corner units) ≡ length units
length-corners [] = refl
length-corners (u ∷ us) = ap suc (length-corners us)

pub half_of-bits : (units : List ℕ) → length units ≡ 6 → half_of units ≡ place_of (corner_bits units) half_bits
unfolding half_of
half_of-bits units six = search (arith, rules, letters-corners, same_half, length-corners, bits-corners)

-- ---- the halves of units

-- the halves that so many units are, six units each
unfoldable pub halves_in : ℕ → List ℕ → List ℕ
halves_in zero units = []
halves_in (suc n) units = half_of (take 6 units) ∷ halves_in n (drop 6 units)

pub shape_of-halves : (units : List ℕ) → shape_of units ≡ halves_in 4 units
unfolding shape_of halves_in
shape_of-halves units = grind (arith, nat_tests, drop-drop)
