-- How many turns and twists letters and tidied words have.
use Rattle.std.proofs.Common.{◌≡◌, true, false, IsTrue, List, [], ◌∷◌, ◌++◌, refl, sym, ap, ◌∙◌, ℕ, ◌+◌, ◌*◌, ◌≤◌, Bool, cond, map, length, Option, Some, None, arith}
use Rattle.std.specs.Prelude.{ℕ, ℤ, pos, ◌%◌, nat_lt, reverse, ◌/◌, ◌==◌, ◌-ℤ◌, ◌+ℤ◌, neg_ℤ, All}
use Rattle.std.proofs.lemmas.Bool.{false≢true}
use Rattle.std.proofs.lemmas.List.{length-append, reverse-append}
use Rattle.scr_notation.specs.declared.event.Event.TheVariants.{Sq1}
use Rattle.scr_notation.specs.declared.turn.Turn.{Turn}
use Rattle.scr_notation.specs.declared.turn.Turn.TheVariants.{Layers, Face, Twist}
use Rattle.scr_notation.specs.Layers.{twelfths, are_still, is_layer_turn}
use Rattle.scr_notation.specs.Turns.{permits}
use Rattle.scr_sq1tables.specs.Stages.{turn_word, quarter_word, shape_letter, pairing_letter, home_letter, quarters, squaring_letter}
use Rattle.scr_sq1tables.specs.Letters.{letter_of}
use Rattle.scr_sq1solve.specs.Walks.{each_of}
use Rattle.scr_sq1tables.specs.declared.stage_letters.StageLetters.TheVariants.{OfShapes, OfPairings, OfHome, Squarings, Quarters}
use Rattle.std.proofs.lemmas.List.Elements.{All-nil, All-cons, All-head, All-tail}
use Rattle.scr_combinatorics.specs.Play.{play, count_in}
use Rattle.scr_combinatorics.specs.Back.{back}
use Rattle.scr_combinatorics.specs.Tidy.{word_of, with_turn, tidy, begins_alike, IsTidy}
use Rattle.scr_combinatorics.proofs.PlayLaws.{count_in-append, play-parts}
use Rattle.scr_combinatorics.proofs.TidyLaws.{IsTidy-apart, IsTidy-rest, IsTidy-tidy, tidy-own}
use Rattle.scr_notation.specs.Turning.{opposite, are_alike, turns_merged, turn_merging}
use Rattle.scr_notation.proofs.MergingLaws.{IsMerging-event}
use Rattle.scr_sq1.specs.Units.{Sq1State, sq1_after}
use Rattle.scr_sq1.proofs.NumberedTurns.{is_layer_turn-after}
use Rattle.scr_sq1tables.specs.declared.stage_letters.StageLetters.{StageLetters}
use Rattle.scr_sq1solve.specs.Counts.{twists_of, twists_in, Costs}

-- ---- turns and twists of letters

twists-append : (v w : List Turn) → twists_in (v ++ w) ≡ twists_in v + twists_in w
twists-append v w = count_in-append twists_of v w

-- words one after the other
Costs-append : {v w : List Turn} {a b c d : ℕ} → Costs v a b → Costs w c d → Costs (v ++ w) (a + c) (b + d)
Costs-append {v} {w} h k = record {
  turns = omega (arith, length-append v w, h.turns, k.turns);
  twists = omega (arith, twists-append v w, h.twists, k.twists);
}

Costs-either : (b : Bool) {v w : List Turn} {turns twists : ℕ} → Costs v turns twists → Costs w turns twists
    → Costs (let u : List Turn = cond b v w in u) turns twists
Costs-either true h k = h
Costs-either false h k = k

Costs-twist : Costs (Twist ∷ []) 1 1
unfolding count_in
Costs-twist = record { turns = omega arith; twists = omega arith }

Costs-turn_word : (x y : ℤ) → Costs (turn_word x y) 1 0
unfolding turn_word count_in
Costs-turn_word x y = one (are_still (twelfths x) (twelfths y))
  where
    one : (b : Bool) → Costs (let w : List Turn = cond b [] (Layers (twelfths x) (twelfths y) ∷ []) in w) 1 0
    one true = record { turns = omega arith; twists = omega arith }
    one false = record { turns = omega arith; twists = omega arith }

-- a turn, a twist and a turn
three : (a b c d : ℤ) → Costs (turn_word a b ++ Twist ∷ turn_word c d) 3 1
three a b c d = let whole = Costs-append (Costs-turn_word a b) (Costs-append Costs-twist (Costs-turn_word c d)) in whole

-- and a twist and a turn more
five : (a b c d e f : ℤ) → Costs (turn_word a b ++ Twist ∷ turn_word c d ++ Twist ∷ turn_word e f) 5 2
five a b c d e f = let whole = Costs-append (three a b c d) (Costs-append Costs-twist (Costs-turn_word e f)) in whole

pub Costs-letter : (letters : StageLetters) (n : ℕ)
    → Costs (letter_of letters n) (each_of letters).turns (each_of letters).twists
unfolding shape_letter pairing_letter quarter_word home_letter squaring_letter
Costs-letter OfShapes n = let whole = Costs-append (Costs-turn_word (pos (n / 12) -ℤ pos 5) (pos (n % 12) -ℤ pos 5)) Costs-twist in whole
Costs-letter OfPairings n =
    let top : ℤ = quarters (n / 4 % 4) in
    let bottom : ℤ = quarters (n % 4) in
    Costs-either (nat_lt n 16) (three top (bottom -ℤ pos 1) (pos 0) (pos 1)) (three (top +ℤ pos 1) bottom (neg_ℤ (pos 1)) (pos 0))
Costs-letter OfHome n =
    let exchange =
    Costs-either (nat_lt n 16) (five (pos 0) (neg_ℤ (pos 1)) (pos 1) (pos 1) (neg_ℤ (pos 1)) (pos 0))
    (five (pos 0) (neg_ℤ (pos 1)) (neg_ℤ (pos 2)) (neg_ℤ (pos 2)) (pos 2) (pos 3)) in
    let whole = Costs-append (Costs-turn_word (quarters (n % 16 / 4)) (quarters (n % 16 % 4))) exchange in
    whole
Costs-letter Squarings n = Costs-turn_word (neg_ℤ (pos (n % 2))) (pos (n / 2))
Costs-letter Quarters n = Costs-turn_word (quarters (n / 4)) (quarters (n % 4))

-- ---- tidying adds no twists

kept_merged : (b : Bool) (t : Turn) → twists_of t ≡ 0
    → twists_in (word_of (let o : Option Turn = cond b None (Some t) in o)) ≡ 0
unfolding count_in word_of
kept_merged true t e = refl
kept_merged false t e = omega (arith, e)

twists-merged : (t u : Turn) → twists_in (word_of (turns_merged t u)) ≤ twists_of t + twists_of u
unfolding count_in word_of
twists-merged (Face a b c) (Face d e f) = omega (arith, kept_merged ((c + f) % 4 == 0) (Face d e ((c + f) % 4)) refl)
twists-merged (Layers a b) (Layers d e) =
    let top : ℤ = twelfths (a +ℤ d) in
    let bottom : ℤ = twelfths (b +ℤ e) in
    omega (arith, kept_merged (are_still top bottom) (Layers top bottom) refl)
twists-merged _ _ = omega arith

twists-with_turn : (t : Turn) (w : List Turn) → twists_in (with_turn turn_merging t w) ≤ twists_of t + twists_in w
unfolding with_turn count_in
twists-with_turn t [] = omega arith
twists-with_turn t (u ∷ w) = merged (are_alike t u)
  where
    merged : (b : Bool)
        → twists_in (let v : List Turn = cond b (word_of (turns_merged t u) ++ w) (t ∷ u ∷ w) in v) ≤ twists_of t + (twists_of u + twists_in w)
    merged true = omega (arith, twists-append (word_of (turns_merged t u)) w, twists-merged t u)
    merged false = omega arith

pub twists-tidy : (w : List Turn) → twists_in (tidy turn_merging w) ≤ twists_in w
unfolding tidy count_in
twists-tidy [] = omega arith
twists-tidy (t ∷ w) = omega (arith, twists-with_turn t (tidy turn_merging w), twists-tidy w)

-- ---- a tidy word has a twist at every second place at least

-- turns of the layers, and twists
abbrev AreOfSq1 : List Turn → Type 0
AreOfSq1 w = All (λ t. IsTrue (is_layer_turn t)) w

-- the turns of a word that leads somewhere
pub layer_turns-played : (s r : Sq1State) (w : List Turn) → play sq1_after s w ≡ Some r → All (λ t. IsTrue (is_layer_turn t)) w
layer_turns-played s r [] e = All-nil (λ t. IsTrue (is_layer_turn t))
layer_turns-played s r (t ∷ w) e =
    let parts = play-parts sq1_after s r t w e in
    All-cons (λ t. IsTrue (is_layer_turn t)) t w (is_layer_turn-after s parts.0 t parts.1) (layer_turns-played parts.0 r w parts.2)

tail_of : (t : Turn) (w : List Turn) → AreOfSq1 (t ∷ w) → AreOfSq1 w
tail_of = All-tail (λ t. IsTrue (is_layer_turn t))

head_of : (t : Turn) (w : List Turn) → AreOfSq1 (t ∷ w) → IsTrue (is_layer_turn t)
head_of = All-head (λ t. IsTrue (is_layer_turn t))

pub length-tidy : (w : List Turn) → IsTidy turn_merging w → All (λ t. IsTrue (is_layer_turn t)) w
    → length w ≤ 2 * twists_in w + 1
unfolding count_in begins_alike
length-tidy [] h a = omega arith
length-tidy (Twist ∷ w) h a = omega (arith, length-tidy w (IsTidy-rest turn_merging Twist w h) (tail_of Twist w a))
length-tidy (Layers x y ∷ []) h a = omega arith
length-tidy (Layers x y ∷ (Twist ∷ w)) h a =
    let rest = IsTidy-rest turn_merging (Layers x y) (Twist ∷ w) h in
    omega (arith, length-tidy w (IsTidy-rest turn_merging Twist w rest) (tail_of Twist w (tail_of (Layers x y) (Twist ∷ w) a)))
length-tidy (Layers x y ∷ (Layers u v ∷ w)) h a = absurd (false≢true (sym (IsTidy-apart turn_merging (Layers x y) (Layers u v ∷ w) h)))
length-tidy (Layers x y ∷ (t ∷ w)) h a = absurd (false≢true (head_of t w (tail_of (Layers x y) (t ∷ w) a)))
length-tidy (t ∷ w) h a = absurd (false≢true (head_of t w a))

pub IsTidy-sq1 : (w : List Turn) → IsTidy turn_merging (tidy turn_merging w)
IsTidy-sq1 w = IsTidy-tidy turn_merging (λ t. IsTrue (permits Sq1 t)) (IsMerging-event Sq1 refl) w

-- where the rest of a word is tidied before, the word comes out the same
pub tidy-rest : (v w : List Turn) → tidy turn_merging (v ++ tidy turn_merging w) ≡ tidy turn_merging (v ++ w)
unfolding tidy
tidy-rest [] w = tidy-own turn_merging (tidy turn_merging w) (IsTidy-sq1 w)
tidy-rest (t ∷ v) w = ap (with_turn turn_merging t) (tidy-rest v w)

-- ---- a word taken back has as many

twists-opposite : (t : Turn) → twists_of (opposite t) ≡ twists_of t
twists-opposite Twist = refl
twists-opposite _ = refl

pub twists-back : (w : List Turn) → twists_in (back opposite w) ≡ twists_in w
unfolding count_in
twists-back [] = refl
twists-back (t ∷ w) =
    ap twists_in (reverse-append (opposite t ∷ []) (map opposite w))
    ∙ omega (arith, twists-append (reverse (map opposite w)) (opposite t ∷ []), twists-opposite t, twists-back w)
