-- Letters as words: how they are put together turn by turn.
use Rattle.std.proofs.Common.{◌≡◌, ℕ, ◌+◌, ◌*◌, ◌/◌, ◌%◌, ◌-◌, ◌<◌, ◌≤◌, Bool, true, false, cond, List, [], ◌∷◌, ◌++◌, length, take, slice_index, refl, sym, ap, ap₂, ◌∙◌, arith, eqb, eq-eqb}
use Rattle.std.specs.Prelude.{ℤ, pos, ◌+ℤ◌, ◌-ℤ◌, ◌==◌, map}
use Rattle.std.proofs.lemmas.Bool.{cond-true}
use Rattle.std.proofs.lemmas.Bool.Decides.{nat_tests}
use Rattle.std.proofs.lemmas.Grind.{common_steps}
use Rattle.std.proofs.lemmas.Int.{ints}
use Rattle.std.proofs.lemmas.List.{append_assoc, append-nil}
use Rattle.scr_combinatorics.specs.Stages.{spelled}
use Rattle.scr_notation.specs.declared.event.Event.TheVariants.{Sq1}
use Rattle.scr_notation.specs.declared.turn.Turn.{Turn}
use Rattle.scr_notation.specs.declared.turn.Turn.TheVariants.{Layers, Twist}
use Rattle.scr_notation.specs.Event.{kind_of}
use Rattle.scr_notation.specs.Layers.{twelfths, are_still}
use Rattle.scr_notation.specs.TurnNumbers.{layer_turn_at, turn_at}
use Rattle.scr_notation.specs.Written.{Written}
use Rattle.scr_sq1tables.specs.Stages.{turn_word}
use Rattle.scr_sq1tables.specs.Letters.{layers_word}

abbrev turns : List ℕ → List Turn
turns later = map layer_turn_at later

-- ---- the first turn, by its number

-- the turn by so many twelfths, by their places among the twelve
pub layers_word-at : (i j : ℕ) (x y : ℤ) → i < 12 → j < 12 → twelfths x ≡ pos i -ℤ pos 5 → twelfths y ≡ pos j -ℤ pos 5
    → layers_word (12 * i + j) ≡ turn_word x y
unfolding turn_word layer_turn_at
layers_word-at i j x y l m top bottom =
    let n : ℕ = 12 * i + j in
    let still : are_still (pos i -ℤ pos 5) (pos j -ℤ pos 5) ≡ (n == 65) = grind (arith, ints, nat_tests) in
    of_test (n == 65) refl (omega arith) (omega arith)
    ∙ ap of_turn (sym still) ∙ ap₂ (λ a b. cond (are_still a b) [] (Layers a b ∷ [])) (sym top) (sym bottom)
  where
    of_turn : Bool → List Turn
    of_turn is_still = cond is_still [] (Layers (pos i -ℤ pos 5) (pos j -ℤ pos 5) ∷ [])

    of_test : (b : Bool) → eqb (12 * i + j) 65 ≡ b → (12 * i + j) / 12 ≡ i → (12 * i + j) % 12 ≡ j
        → cond b [] (layer_turn_at (12 * i + j) ∷ []) ≡ of_turn b
    of_test true e row column = refl
    of_test false e row column =
        let n : ℕ = 12 * i + j in
        ap (λ t. t ∷ []) (ap (λ b. cond b Twist (Layers (pos (n / 12) -ℤ pos 5) (pos (n % 12) -ℤ pos 5))) e
        ∙ ap₂ (λ a b. Layers (pos a -ℤ pos 5) (pos b -ℤ pos 5)) row column)

-- the place of an amount among the twelve, with so many whole turns more on either side
pub place_at : (z : ℤ) (i turns more : ℕ) → i < 12 → z +ℤ pos (12 * turns) ≡ (pos i -ℤ pos 5) +ℤ pos (12 * more)
    → twelfths z ≡ pos i -ℤ pos 5
place_at z i turns more l same = grind arith

-- so many twelfths clockwise, one less, and one more
pub place_on : (m : ℕ) → twelfths (pos m) ≡ pos ((m + 5) % 12) -ℤ pos 5
place_on m = place_at (pos m) ((m + 5) % 12) 0 ((m + 5) / 12) (omega arith) (omega (arith, ints))

pub place_less : (m : ℕ) → twelfths (pos m -ℤ pos 1) ≡ pos ((m + 5 - 1) % 12) -ℤ pos 5
place_less m = place_at (pos m -ℤ pos 1) ((m + 5 - 1) % 12) 1 ((m + 4) / 12 + 1) (omega arith) (omega (arith, ints))

pub place_more : (m : ℕ) → twelfths (pos m +ℤ pos 1) ≡ pos ((m + 5 + 1) % 12) -ℤ pos 5
place_more m = place_at (pos m +ℤ pos 1) ((m + 5 + 1) % 12) 0 ((m + 5 + 1) / 12) (omega arith) (omega (arith, ints))

-- ---- letters that are written turn by turn

abbrev pub written : List Turn → Written
written turns = record { event = Sq1; turns = turns }

-- the first turn behind a word, or none
pub first-written : (v w : Written) (n : ℕ) → v.event ≡ Sq1 → (n ≡ 65 → ⊥)
    → w ≡ record { event = v.event; turns = v.turns ++ turn_at (kind_of v.event) n ∷ [] } → w ≡ written (v.turns ++ layers_word n)
unfolding turn_at
first-written v w n event other made = grind arith

pub first-left_out : (v w : Written) (n : ℕ) → v.event ≡ Sq1 → n ≡ 65 → w ≡ v → w ≡ written (v.turns ++ layers_word n)
first-left_out v w n event none same = grind (arith, cond-true, eq-eqb, append-nil)

-- and the later ones
pub letter-written : (v w : Written) (first later letter : List Turn) (numbers : List ℕ) → v ≡ written (first ++ later)
    → w ≡ record { event = v.event; turns = v.turns ++ map (turn_at (kind_of v.event)) numbers } → letter ≡ later ++ turns numbers
    → w ≡ written (first ++ letter)
unfolding turn_at
letter-written v w first later letter numbers is made spelled = grind (arith, append_assoc)

pub length-layers_word : (n : ℕ) → length (layers_word n) ≤ 1
length-layers_word n = grind (arith, nat_tests)

-- a word with one letter more
pub spelled-more : (letter : ℕ → List Turn) (numbers : List ℕ) (k : ℕ) → k < length numbers
    → spelled letter (take (k + 1) numbers) ≡ spelled letter (take k numbers) ++ letter (slice_index numbers k)
spelled-more letter numbers k lt = grind (arith, nat_tests, common_steps)

pub spelled-one : (letter : ℕ → List Turn) (n : ℕ) → spelled letter (n ∷ []) ≡ letter n
spelled-one letter n = append-nil (letter n)
