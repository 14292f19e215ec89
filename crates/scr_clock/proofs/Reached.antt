-- Each Clock is reached, and nothing else.
use Rattle.std.proofs.Common.{◌≡◌, ℕ, ◌↔◌, false, List, Option, Some, None, refl, sym, ap, ◌∙◌, subst}
use Rattle.std.specs.Option.{option_map}
use Rattle.scr_combinatorics.specs.Reach.{IsReached}
use Rattle.scr_combinatorics.proofs.PlayLaws.{IsReached-keeps}
use Rattle.scr_clock.specs.Dials.{IsClock, solved, clock_puzzle}
use Rattle.scr_notation.specs.declared.turn.Turn.{Turn}
use Rattle.scr_clock.specs.Held.{HeldClock, clock_after}
use Rattle.scr_clock.specs.Written.{written}
use Rattle.scr_clock.proofs.TurnLaws.{IsClock-turned, dials_after-parts}
use Rattle.scr_clock.proofs.DialTurns.{IsClock-solved}
use Rattle.scr_clock.proofs.HeldLaws.{held_clock, dial_word}
use Rattle.scr_clock.proofs.AmountLaws.{amounts_of, amounts_of-give}

option_map-some : {A B : Type 0} (f : A → B) (o : Option A) (b : B) → option_map f o ≡ Some b
    → (a : A) × (o ≡ Some a) × (f a ≡ b)
option_map-some f None b e = absurd (cc)
option_map-some f (Some a) b e = (a, refl, (cc))

-- what is reached is a Clock
pub IsClock-reached : (dials : List ℕ) → IsReached clock_puzzle dials → IsClock dials
IsClock-reached dials r =
    let P : List ℕ → Type 0 = λ d. IsClock d in
    IsReached-keeps clock_puzzle P (λ s e. subst P (sym e) IsClock-solved)
    (λ s q t c e. subst P (dials_after-parts s q t e).1 (IsClock-turned s t)) dials r

-- what a scramble makes of the solved Clock is reached
pub IsReached-played : (turns : List Turn) (dials : List ℕ) → clock_after solved turns ≡ Some dials
    → IsReached clock_puzzle dials
IsReached-played turns dials gives =
    let held = option_map-some (λ (h : HeldClock). h.dials) _ dials gives in
    let word = dial_word turns (held_clock solved false) held.0 held.1 in
    (word.0, solved, refl, word.1 ∙ ap Some held.2)

-- each Clock is reached, by its scramble
pub IsReached-clock : (dials : List ℕ) → IsClock dials → IsReached clock_puzzle dials
IsReached-clock dials c = IsReached-played (written (amounts_of dials)) dials (amounts_of-give dials c)

-- a Clock is what turns reach
pub IsClock-iff : (dials : List ℕ) → IsClock dials ↔ IsReached clock_puzzle dials
IsClock-iff dials = (IsReached-clock dials, IsClock-reached dials)
