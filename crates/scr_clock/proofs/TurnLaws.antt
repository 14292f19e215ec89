-- Laws of turns of the dials.
use Rattle.std.proofs.Common.{◌≡◌, ℕ, ◌+◌, ◌-◌, ◌%◌, ◌<◌, ◌⊎◌, inl, inr, Bool, true, cond, ltb, ◌&&◌}
use Rattle.std.proofs.Common.{List, length, get_or, Some, None, refl, sym, arith}
use Rattle.std.specs.List.{range_with_len}
use Rattle.std.proofs.lemmas.Bool.{and_parts, and_from, ltb-true, lt-ltb, cond-true, cases_cond}
use Rattle.std.proofs.lemmas.Option.{cond_some}
use Rattle.std.proofs.lemmas.List.FromFn.{fill_by_all}
use Rattle.std.proofs.lemmas.List.Elements.{All-get_or, All-map}
use Rattle.scr_clock.specs.Dials.{IsClock, DialTurn, is_turn, gain_at, dials_turned, dials_after}
use Rattle.scr_clock.specs.Sides.{Setting, turn_by}

-- ---- turns

-- a pin set from 1 to 15 and an amount from 0 to 11 are a turn
pub is_turn-from : (back : Bool) (s : Setting) → is_turn (turn_by back s) ≡ true
is_turn-from back s =
    and_from (ltb 0 s.pins) (ltb s.pins 16 && ltb s.amount 12) (lt-ltb 0 s.pins s.some_pin)
    (and_from (ltb s.pins 16) (ltb s.amount 12) (lt-ltb s.pins 16 s.four_pins) (lt-ltb s.amount 12 s.hours))

-- and so is the setting of each turn
abbrev pub setting_of : (t : DialTurn) → is_turn t ≡ true → Setting
setting_of t h =
    let a = and_parts (ltb 0 t.pins) (ltb t.pins 16 && ltb t.amount 12) h in
    let b = and_parts (ltb t.pins 16) (ltb t.amount 12) a.1 in
    record {
      pins = t.pins;
      amount = t.amount;
      some_pin = ltb-true 0 t.pins a.0;
      four_pins = ltb-true t.pins 16 b.0;
      hours = ltb-true t.amount 12 b.1;
    }

-- a turn is defined
pub dials_after-turn : (dials : List ℕ) (t : DialTurn) → is_turn t ≡ true
    → dials_after dials t ≡ Some (dials_turned dials t)
unfolding dials_after
dials_after-turn dials t h = cond-true (is_turn t) (Some (dials_turned dials t)) None h

-- and nothing else is
pub dials_after-parts : (dials r : List ℕ) (t : DialTurn) → dials_after dials t ≡ Some r
    → (is_turn t ≡ true) × (dials_turned dials t ≡ r)
unfolding dials_after
dials_after-parts dials r t e = cond_some (is_turn t) (dials_turned dials t) r e

-- ---- dial by dial

-- each dial of a Clock shows an hour
pub hour_at : (dials : List ℕ) (k : ℕ) → IsClock dials → k < 14 → get_or dials k 0 < 12
hour_at dials k c h = All-get_or (λ d. d < 12) dials k 0 (omega (arith, c.fourteen)) c.below

-- a dial gains nothing, the amount, or what is left of it to twelve
gain_at-cases : (t : DialTurn) (k : ℕ) → (gain_at t k ≡ 0) ⊎ ((gain_at t k ≡ 12 - t.amount) ⊎ (gain_at t k ≡ t.amount))
unfolding gain_at
gain_at-cases t k =
    elim (cases_cond _ 0 (cond (t.back && ltb k 9) (12 - t.amount) t.amount) (gain_at t k) refl) [
      | inl z ↦ inl z
      | inr some ↦ inr (cases_cond (t.back && ltb k 9) (12 - t.amount) t.amount (gain_at t k) some)
    ]

-- dials that have come to these hours are the turned ones
pub turned_by_dials : (dials other : List ℕ) (t : DialTurn) → length other ≡ 14
    → ((k : ℕ) → k < 14 → get_or other k 0 ≡ (get_or dials k 0 + gain_at t k) % 12) → other ≡ dials_turned dials t
unfolding dials_turned
turned_by_dials dials other t e h = fill_by_all (λ j. (get_or dials j 0 + gain_at t j) % 12) other 14 0 e h

-- a turn gives a Clock
pub IsClock-turned : (dials : List ℕ) (t : DialTurn) → IsClock (dials_turned dials t)
unfolding dials_turned
IsClock-turned dials t = record {
  fourteen = refl;
  below = All-map (λ d. d < 12) (λ j. (get_or dials j 0 + gain_at t j) % 12) (range_with_len 0 14) (λ k d l. omega arith);
}

-- a turn by 0 does nothing
pub turned-none : (dials : List ℕ) (t : DialTurn) → IsClock dials → t.amount ≡ 0 → dials_turned dials t ≡ dials
turned-none dials t c e =
    sym (turned_by_dials dials dials t c.fourteen
    (λ k l. elim (gain_at-cases t k) [
      | inl z ↦ omega (arith, hour_at dials k c l, z)
      | inr s ↦ elim s [ inl z ↦ omega (arith, hour_at dials k c l, e, z) | inr z ↦ omega (arith, hour_at dials k c l, e, z) ]
    ]))
