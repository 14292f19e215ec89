-- The turns by their numbers.
use Rattle.std.proofs.lemmas.Bool.Decides.{nat_tests}
use Rattle.std.proofs.Common.{rules}
use Rattle.std.proofs.Common.{arith}
use Rattle.std.proofs.Common.{◌≡◌, ℕ, ◌<◌, ◌/◌, ◌%◌, IsTrue, List, [], ◌∷◌, Option, Some, None, refl, sym, ap, ◌∙◌}
use Rattle.std.proofs.lemmas.Bool.{cond-true, cond-false, ne_eqb}
use Rattle.std.specs.Prelude.{ℤ, pos, ◌-ℤ◌, ◌==◌, map, option_and_then}
use Rattle.scr_combinatorics.specs.Play.{play}
use Rattle.scr_notation.specs.declared.event.Event.TheVariants.{Sq1 as EventSq1}
use Rattle.scr_notation.specs.declared.event.Kind.TheVariants.{LayersAndTwist}
use Rattle.scr_notation.specs.declared.turn.Turn.{Turn}
use Rattle.scr_notation.specs.declared.turn.Turn.TheVariants.{Layers, Twist}
use Rattle.scr_notation.specs.Layers.{is_layer_turn}
use Rattle.scr_notation.specs.TurnNumbers.{layer_turn_at, turn_at}
use Rattle.scr_notation.specs.Written.{Written, numbered_word}
use Rattle.scr_notation.proofs.NumberLaws.{numbered, has_turn_at}
use Rattle.scr_sq1.specs.Units.{Sq1State, after_layers, twisted, sq1_after}
use Rattle.scr_sq1.proofs.Lawful.{sq1_after-layers}

-- a turn that is not barred is one of the layers or a twist, and so has a number
pub is_layer_turn-after : (s r : Sq1State) (t : Turn) → sq1_after s t ≡ Some r → IsTrue (is_layer_turn t)
unfolding sq1_after
is_layer_turn-after s r (Layers x y) e = (sq1_after-layers s r x y e).letter
is_layer_turn-after s r Twist e = refl
is_layer_turn-after s r _ e = absurd (cc)

pub number-after : (s r : Sq1State) (t : Turn) → sq1_after s t ≡ Some r → (n : ℕ) × (n < 144) × (layer_turn_at n ≡ t)
unfolding turn_at
number-after s r t e = numbered LayersAndTwist t tt (is_layer_turn-after s r t e)

-- which turn has a number
abbrev pub top_of : ℕ → ℤ
top_of n = pos (n / 12) -ℤ pos 5

abbrev pub bottom_of : ℕ → ℤ
bottom_of n = pos (n % 12) -ℤ pos 5

pub twist_number : (n : ℕ) → n ≡ 65 → layer_turn_at n ≡ Twist
unfolding layer_turn_at
twist_number n is = ap layer_turn_at is

pub layers_number : (n : ℕ) → (n ≡ 65 → ⊥) → layer_turn_at n ≡ Layers (top_of n) (bottom_of n)
unfolding layer_turn_at
layers_number n apart = cond-false (n == 65) Twist (Layers (top_of n) (bottom_of n)) (ne_eqb n 65 apart)

-- what the turn of a number makes of a state, where it is the twist, and where it turns the layers
pub after-twist : (s r : Sq1State) (n : ℕ) → n ≡ 65 → r ≡ twisted s → Some r ≡ sq1_after s (layer_turn_at n)
unfolding sq1_after
after-twist s r n is made = ap Some made ∙ sym (ap (sq1_after s) (twist_number n is))

pub after-number : (s : Sq1State) (n : ℕ) (o : Option Sq1State) (x y : ℤ) → n < 144 → (n ≡ 65 → ⊥)
    → o ≡ after_layers s x y → x ≡ top_of n → y ≡ bottom_of n → o ≡ sq1_after s (layer_turn_at n)
unfolding sq1_after turn_at
after-number s n o x y lt apart made top bottom = search (arith, rules, layers_number, has_turn_at, cond-true)

-- what the turn of a number makes of a state
abbrev pub numbered_after : Sq1State → ℕ → Option Sq1State
numbered_after s n = sq1_after s (layer_turn_at n)

same_rest : (o : Option Sq1State) (w : List ℕ) → ((r : Sq1State) → play numbered_after r w ≡ play sq1_after r (map layer_turn_at w))
    → option_and_then (λ r. play numbered_after r w) o ≡ option_and_then (λ r. play sq1_after r (map layer_turn_at w)) o
same_rest None w h = refl
same_rest (Some r) w h = h r

-- a word played by its numbers
pub play-numbered : (s : Sq1State) (w : List ℕ) → play numbered_after s w ≡ play sq1_after s (map layer_turn_at w)
unfolding play
play-numbered s [] = refl
play-numbered s (n ∷ w) = same_rest (numbered_after s n) w (λ r. play-numbered r w)

-- the turns of a word that is told by its numbers
pub turns-numbered : (word : Written) (numbers : List ℕ) → word.event ≡ EventSq1 → word ≡ numbered_word word.event numbers
    → word.turns ≡ map layer_turn_at numbers
unfolding turn_at
turns-numbered word numbers event is = grind (arith, nat_tests)

-- and such a word played
pub play-word : (s : Sq1State) (word : Written) (numbers : List ℕ) → word.event ≡ EventSq1 → word ≡ numbered_word word.event numbers
    → play numbered_after s numbers ≡ play sq1_after s word.turns
play-word s word numbers event is = search (arith, rules, play-numbered, turns-numbered)
