-- What written turns make of a Clock.
use Rattle.std.proofs.Common.{◌≡◌, ℕ, ◌<◌, ◌≤◌, Bool, true, false, ◌&&◌, IsTrue, List, [], ◌∷◌, ◌++◌, Some, None, take, drop, refl, sym, ap, ◌∙◌, subst, inl, inr, arith}
use Rattle.std.specs.Prelude.{All, ◌==◌, nat_lt, nat_le, not}
use Rattle.std.specs.List.{list_any, list_all}
use Rattle.std.specs.Option.{option_map}
use Rattle.std.proofs.lemmas.Bool.{and_parts, and_from, or_cases, eqb-true, leb-true, le-leb, lt-ltb, cond-true, false≢true}
use Rattle.std.proofs.lemmas.Option.{cond_some}
use Rattle.std.proofs.lemmas.List.Elements.{All-head, All-tail, All-take, All-drop}
use Rattle.scr_combinatorics.specs.Play.{play}
use Rattle.scr_combinatorics.proofs.PlayLaws.{play-empty, play-first, play-parts, play-append, play-one}
use Rattle.scr_notation.specs.declared.turn.Turn.{Turn}
use Rattle.scr_notation.specs.declared.turn.Turn.TheVariants.{Pins, Over}
use Rattle.scr_notation.specs.Pins.{pin_sets, is_clock_turn}
use Rattle.scr_clock.specs.Dials.{IsClock, DialTurn, is_turn, dials_turned, solved, dials_after, dial_turn}
use Rattle.scr_clock.specs.Held.{HeldClock, held_after, clock_after}
use Rattle.scr_clock.specs.Written.{pins_at, written}
use Rattle.scr_clock.proofs.TurnLaws.{dials_after-turn}

abbrev pub held_clock : List ℕ → Bool → HeldClock
held_clock dials back = record { dials = dials; back = back }

-- ---- written turns are turns of the dials

-- what passes for each of these numbers passes for one of them
passes_of : (test : ℕ → Bool) (sets : List ℕ) (p : ℕ) → IsTrue (list_all test sets)
    → IsTrue (list_any (λ set. set == p) sets) → IsTrue (test p)
passes_of test [] p h k = absurd (false≢true k)
passes_of test (s ∷ sets) p h k =
    let parts = and_parts (test s) (list_all test sets) h in
    elim (or_cases (s == p) (list_any (λ set. set == p) sets) k) [
      | inl e ↦ subst (λ (n : ℕ). IsTrue (test n)) (eqb-true s p e) parts.0
      | inr m ↦ passes_of test sets p parts.1 m
    ]

-- a turn that a Clock has is one of the dials
pub is_turn-written : (back : Bool) (p a : ℕ) → IsTrue (is_clock_turn (Pins p a))
    → IsTrue (is_turn (dial_turn back p a))
is_turn-written back p a h =
    let parts = and_parts (list_any (λ set. set == p) pin_sets) (nat_le a 11) h in
    let set = and_parts (nat_lt 0 p) (nat_lt p 16) (passes_of (λ n. nat_lt 0 n && nat_lt n 16) pin_sets p refl parts.0) in
    let hours : a < 12 = omega (arith, leb-true a 11 parts.1) in
    and_from (nat_lt 0 p) (nat_lt p 16 && nat_lt a 12) set.0 (and_from (nat_lt p 16) (nat_lt a 12) set.1 (lt-ltb a 12 hours))

step : (held r : HeldClock) (t : Turn) → held_after held t ≡ Some r
    → (w : List DialTurn) × (play dials_after held.dials w ≡ Some r.dials)
unfolding held_after
step held r (Pins p a) e =
    let turn : DialTurn = dial_turn held.back p a in
    let parts = cond_some (is_clock_turn (Pins p a)) (record held { dials = dials_turned held.dials turn }) r e in (
      turn ∷ [],
      play-one dials_after held.dials turn ∙ dials_after-turn held.dials turn (is_turn-written held.back p a parts.0)
          ∙ ap (λ x. Some x.dials) parts.1,
    )
step held r Over e = ([], let f : held.dials ≡ r.dials = cc in play-empty dials_after held.dials ∙ ap Some f)
step held r _ e = absurd (cc)

-- what written turns make of the dials, turns of the dials do
pub dial_word : (turns : List Turn) (held r : HeldClock) → play held_after held turns ≡ Some r
    → (w : List DialTurn) × (play dials_after held.dials w ≡ Some r.dials)
dial_word [] held r e = (
  [],
  let f : Some held ≡ Some r = sym (play-empty held_after held) ∙ e in
      let g : held.dials ≡ r.dials = cc in play-empty dials_after held.dials ∙ ap Some g,
)
dial_word (t ∷ turns) held r e =
    let parts = play-parts held_after held r t turns e in
    let first = step held parts.0 t parts.1 in
    let rest = dial_word turns parts.0 r parts.2 in
    (first.0 ++ rest.0, play-append dials_after held.dials parts.0.dials first.0 rest.0 first.1 ∙ rest.1)

-- ---- the turns of a scramble

-- what turns of a side by these amounts make of the dials, one after the other
unfoldable pub side_turned : Bool → List ℕ → List ℕ → List ℕ → List ℕ
side_turned back dials [] amounts = dials
side_turned back dials (p ∷ sets) [] = dials
side_turned back dials (p ∷ sets) (a ∷ amounts) =
    side_turned back (dials_turned dials (dial_turn back p a)) sets amounts

-- what a scramble's turns make of solved
unfoldable pub given : List ℕ → List ℕ
given amounts = side_turned true (side_turned false solved pin_sets (take 9 amounts)) (drop 4 pin_sets) (drop 9 amounts)

pub after_pins : (back : Bool) (dials : List ℕ) (p a : ℕ) → IsTrue (is_clock_turn (Pins p a))
    → held_after (held_clock dials back) (Pins p a) ≡ Some (held_clock (dials_turned dials (dial_turn back p a)) back)
unfolding held_after
after_pins back dials p a h = cond-true (is_clock_turn (Pins p a)) _ None h

play-pins_at : (back : Bool) (dials sets amounts : List ℕ)
    → IsTrue (list_all (λ p. list_any (λ set. set == p) pin_sets) sets) → All (λ a. a < 12) amounts
    → play held_after (held_clock dials back) (pins_at sets amounts) ≡ Some (held_clock (side_turned back dials sets amounts) back)
unfolding pins_at side_turned
play-pins_at back dials [] amounts s h = play-empty held_after (held_clock dials back)
play-pins_at back dials (p ∷ sets) [] s h = play-empty held_after (held_clock dials back)
play-pins_at back dials (p ∷ sets) (a ∷ amounts) s h =
    let parts = and_parts (list_any (λ set. set == p) pin_sets) (list_all (λ p. list_any (λ set. set == p) pin_sets) sets) s in
    let low : a ≤ 11 = omega (arith, All-head (λ n. n < 12) a amounts h) in
    let next = dials_turned dials (dial_turn back p a) in
    play-first held_after (held_clock dials back) (held_clock next back) (Pins p a) (pins_at sets amounts)
    (after_pins back dials p a (and_from (list_any (λ set. set == p) pin_sets) (nat_le a 11) parts.0 (le-leb a 11 low)))
    ∙ play-pins_at back next sets amounts parts.1 (All-tail (λ n. n < 12) a amounts h)

pub after_over : (back : Bool) (dials : List ℕ)
    → held_after (held_clock dials back) Over ≡ Some (held_clock dials (not back))
unfolding held_after
after_over back dials = refl

pub clock_after-written : (amounts : List ℕ) → IsClock amounts
    → clock_after solved (written amounts) ≡ Some (given amounts)
unfolding written given
clock_after-written amounts h =
    let front = side_turned false solved pin_sets (take 9 amounts) in
    let sets : List ℕ = drop 4 pin_sets in
    ap (option_map (λ held. held.dials))
    (play-append held_after (held_clock solved false) (held_clock front false)
    (pins_at pin_sets (take 9 amounts)) (Over ∷ pins_at sets (drop 9 amounts))
    (play-pins_at false solved pin_sets (take 9 amounts) refl (All-take (λ a. a < 12) 9 amounts h.below))
    ∙ play-first held_after _ _ Over (pins_at sets (drop 9 amounts)) (after_over false front)
    ∙ play-pins_at true front sets (drop 9 amounts) refl (All-drop (λ a. a < 12) 9 amounts h.below))
