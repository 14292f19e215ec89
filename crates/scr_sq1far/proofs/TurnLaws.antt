-- The turns by their numbers.
use Rattle.std.proofs.Common.{◌≡◌, ℕ, ◌<◌, ◌/◌, ◌%◌, Bool, true, false, cond, Some, refl, sym, ap, ◌∙◌, arith}
use Rattle.std.proofs.Common.{◌+◌, inl, inr}
use Rattle.std.proofs.lemmas.Bool.{cases_lt}
use Rattle.std.specs.Prelude.{pos, ◌-ℤ◌, ◌==◌}
use Rattle.scr_notation.specs.declared.turn.Turn.{Turn}
use Rattle.scr_notation.specs.declared.turn.Turn.TheVariants.{Layers, Twist}
use Rattle.scr_notation.specs.TurnNumbers.{layer_turn_at}
use Rattle.scr_sq1.specs.Units.{Sq1State, sq1_after}
use Rattle.scr_sq1.proofs.NumberedTurns.{number-after}
use Rattle.scr_sq1far.specs.Alternating.{is_twist}

twist-at : (n : ℕ) (b : Bool) → is_twist (cond b Twist (Layers (pos (n / 12) -ℤ pos 5) (pos (n % 12) -ℤ pos 5))) ≡ b
twist-at n true = refl
twist-at n false = refl

pub is_twist-number : (n : ℕ) → is_twist (layer_turn_at n) ≡ (n == 65)
unfolding layer_turn_at
is_twist-number n = twist-at n (n == 65)

-- what holds of the turns below a number and of this one holds of those below the next
pub each_turn-more : (Q : Sq1State → Type 0) (s : Sq1State) (twists : Bool) (turn : ℕ)
    → ((n : ℕ) (r : Sq1State) → n < turn → (n == 65) ≡ twists → sq1_after s (layer_turn_at n) ≡ Some r → Q r)
    → ((r : Sq1State) → (turn == 65) ≡ twists → sq1_after s (layer_turn_at turn) ≡ Some r → Q r)
    → (n : ℕ) (r : Sq1State) → n < turn + 1 → (n == 65) ≡ twists → sq1_after s (layer_turn_at n) ≡ Some r → Q r
each_turn-more Q s twists turn below here n r lt kind e = elim (cases_lt n turn) [
  | inl less ↦ below n r less kind e
  | inr le ↦
      let is : n ≡ turn = omega arith in
      here r (ap (λ k. k == 65) (sym is) ∙ kind) (ap (λ k. sq1_after s (layer_turn_at k)) (sym is) ∙ e)
]

-- what holds of all turns of a kind by their numbers holds of those turns
pub each_turn-all : (Q : Sq1State → Type 0) (s : Sq1State) (twists : Bool)
    → ((n : ℕ) (r : Sq1State) → n < 144 → (n == 65) ≡ twists → sq1_after s (layer_turn_at n) ≡ Some r → Q r)
    → (t : Turn) (r : Sq1State) → is_twist t ≡ twists → sq1_after s t ≡ Some r → Q r
each_turn-all Q s twists each t r kind e =
    let n = number-after s r t e in
    each n.0 r n.1 (sym (is_twist-number n.0) ∙ ap is_twist n.2 ∙ kind) (ap (sq1_after s) n.2 ∙ e)
