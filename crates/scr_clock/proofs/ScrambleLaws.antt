-- Scrambles played and made turn by turn.
use Rattle.std.proofs.Common.{◌≡◌, ℕ, ◌+◌, ◌<◌, ◌≤◌, ◌↔◌, Bool, false, IsTrue, IsSome, List, [], ◌∷◌, ◌++◌, length, get_or, take, drop, Option, Some, None, refl, sym, ap, ◌∙◌, subst, arith, le-leb, length-append, append_assoc}
use Rattle.std.specs.Prelude.{All, ◌==◌, nat_le, is_some}
use Rattle.std.specs.Bool.{OnTrue}
use Rattle.std.specs.List.{list_any}
use Rattle.std.specs.Option.{option_map}
use Rattle.std.proofs.lemmas.Bool.{false≢true, and_from, OnTrue_at}
use Rattle.std.proofs.lemmas.Option.{cond_some}
use Rattle.std.proofs.lemmas.List.{take_more, take_all, length-take-le, length-drop}
use Rattle.std.proofs.lemmas.List.Elements.{All-get_or}
use Rattle.std.proofs.lemmas.Simd.{length-zip2, get_or-zip2}
use Rattle.scr_combinatorics.specs.Play.{play}
use Rattle.scr_combinatorics.proofs.PlayedWhere.{TellsTurns, played-iff}
use Rattle.scr_notation.specs.declared.event.Event.{Event}
use Rattle.scr_notation.specs.declared.event.Event.TheVariants.{Clock}
use Rattle.scr_notation.specs.declared.event.Kind.{Kind}
use Rattle.scr_notation.specs.declared.event.Kind.TheVariants.{PinSets}
use Rattle.scr_notation.specs.declared.turn.Turn.{Turn}
use Rattle.scr_notation.specs.declared.turn.Turn.TheVariants.{Pins, Over}
use Rattle.scr_notation.specs.Turns.{has_turn, permits}
use Rattle.scr_notation.specs.Pins.{pin_sets, is_clock_turn}
use Rattle.scr_notation.specs.Written.{Written}
use Rattle.scr_clock.specs.Held.{HeldClock, held_after, clock_after}
use Rattle.scr_clock.specs.Dials.{IsClock}
use Rattle.scr_clock.specs.Written.{pins_at, written}
use Rattle.scr_clock.proofs.HeldLaws.{held_clock, after_pins, after_over}

-- turns of pins are a Clock's
pub pins_of_clock : (kind : Kind) (t : Turn) (p a : ℕ) → t ≡ Pins p a → IsTrue (has_turn kind t)
    → IsTrue (is_clock_turn (Pins p a))
pins_of_clock kind t p a e h = of_kind kind (subst (λ (u : Turn). IsTrue (has_turn kind u)) e h)
  where
    of_kind : (kind : Kind) → IsTrue (has_turn kind (Pins p a)) → IsTrue (is_clock_turn (Pins p a))
    of_kind PinSets h = h
    of_kind _ h = absurd (false≢true h)

-- no other turn does anything to a Clock
pub after_none : (held : HeldClock) (t : Turn) → ((p a : ℕ) → t ≡ Pins p a → ⊥) → (t ≡ Over → ⊥)
    → held_after held t ≡ None
unfolding held_after
after_none held (Pins p a) n m = absurd (n p a refl)
after_none held Over n m = absurd (m refl)
after_none held _ n m = refl

-- a Clock in hand is told by its dials and by its side
pub same_held : {dials other : List ℕ} {back over : Bool} → dials ≡ other → back ≡ over
    → ◌≡◌ {A = Option HeldClock} (Some (held_clock dials back)) (Some (held_clock other over))
same_held e f = cc

-- ---- turns pushed one after the other

-- what a scramble is after a turn that is pushed where there is room and the event has it
abbrev pub With : Written → List Turn → Written
With s turns = record { event = s.event; turns = s.turns ++ turns }

pub pushed : (s new : Written) (t : Turn) (b : Bool) → length s.turns < 160 → IsTrue (permits s.event t)
    → (IsTrue b ↔ ((length s.turns < 160) × IsTrue (permits s.event t))) → OnTrue b (new ≡ With s (t ∷ []))
    → new ≡ With s (t ∷ [])
pushed s new t b room p exact h = OnTrue_at (exact.1 (room, p)) h

-- pin sets, each of which a Clock's turns have, and hours are turns of a Clock
permits-pins_at : (sets amounts : List ℕ) (k : ℕ) → All (λ p. IsTrue (list_any (λ set. set == p) pin_sets)) sets
    → All (λ a. a < 12) amounts → k < length sets → k < length amounts
    → IsTrue (permits Clock (Pins (get_or sets k 0) (get_or amounts k 0)))
permits-pins_at sets amounts k s h ls la =
    let low = All-get_or (λ a. a < 12) amounts k 0 la h in
    and_from (list_any (λ set. set == get_or sets k 0) pin_sets) (nat_le (get_or amounts k 0) 11)
    (All-get_or (λ p. IsTrue (list_any (λ set. set == p) pin_sets)) sets k 0 ls s) (le-leb (get_or amounts k 0) 11 (omega (arith, low)))

-- a turn more of these pin sets by these amounts, pushed onto a scramble of Clock that has those before it
pub push-more : (old s new : Written) (sets amounts : List ℕ) (k : ℕ) (b : Bool) → old.event ≡ Clock → length old.turns + length sets ≤ 160
    → length sets ≡ length amounts → All (λ p. IsTrue (list_any (λ set. set == p) pin_sets)) sets → All (λ a. a < 12) amounts
    → k < length sets
    → s ≡ With old (take k (pins_at sets amounts))
    → (let t = Pins (get_or sets k 0) (get_or amounts k 0) in
    (IsTrue b ↔ ((length s.turns < 160) × IsTrue (permits s.event t))) → OnTrue b (new ≡ With s (t ∷ []))
    → new ≡ With old (take (k + 1) (pins_at sets amounts)))
unfolding pins_at
push-more old s new sets amounts k b clock room same all low l e exact h =
    let t = Pins (get_or sets k 0) (get_or amounts k 0) in
    let turns = pins_at sets amounts in
    let long : length turns ≡ length sets = length-zip2 (λ p a. Pins p a) sets amounts same in
    let here : get_or turns k t ≡ t = get_or-zip2 (λ p a. Pins p a) sets amounts k 0 0 t l (omega (arith, same)) in
    let taken = length-take-le k turns (omega (arith, long)) in
    let left : length s.turns < 160 = omega (arith, ap (λ x. length x.turns) e, length-append old.turns (take k turns), taken) in
    let own = permits-pins_at sets amounts k all low l (omega (arith, same)) in
    let permitted = subst (λ (x : Event). IsTrue (permits x t)) (sym (ap (λ x. x.event) e ∙ clock)) own in
    pushed s new t b left permitted exact h
    ∙ ap (λ x. With x (t ∷ [])) e
    ∙ ap (λ x. record { event = old.event; turns = x })
    (append_assoc old.turns (take k turns) (t ∷ [])
    ∙ ap (λ x. old.turns ++ x) (ap (λ u. take k turns ++ u ∷ []) (sym here) ∙ sym (take_more turns k t (omega (arith, long)))))

nine : (amounts : List ℕ) → IsClock amounts → length (pins_at pin_sets (take 9 amounts)) ≡ 9
unfolding pins_at
nine amounts h =
    length-zip2 (λ p a. Pins p a) pin_sets (take 9 amounts) (sym (length-take-le 9 amounts (omega (arith, h.fourteen))))

-- a scramble of Clock with these turns
abbrev pub of_clock : List Turn → Written
of_clock turns = record { event = Clock; turns = turns }

-- nine turns of the front, and the Clock turned over, pushed onto the empty scramble
pub front_pushed : (empty front over : Written) (amounts : List ℕ) (b : Bool) → IsClock amounts → empty ≡ of_clock []
    → front ≡ With empty (pins_at pin_sets (take 9 amounts))
    → (IsTrue b ↔ ((length front.turns < 160) × IsTrue (permits front.event Over)))
    → OnTrue b (over ≡ With front (Over ∷ [])) → over ≡ of_clock (pins_at pin_sets (take 9 amounts) ++ Over ∷ [])
front_pushed empty front over amounts b h e f exact g =
    let turns = pins_at pin_sets (take 9 amounts) in
    let own : front ≡ of_clock turns = f ∙ ap (λ x. With x turns) e in
    let permitted = subst (λ (x : Event). IsTrue (permits x Over)) (sym (ap (λ x. x.event) own)) refl in
    pushed front over Over b (omega (arith, ap (λ x. length x.turns) own, nine amounts h)) permitted exact g
    ∙ ap (λ x. With x (Over ∷ [])) own

-- leave room for five more
pub room_behind : (over : Written) (amounts : List ℕ) → IsClock amounts
    → over ≡ of_clock (pins_at pin_sets (take 9 amounts) ++ Over ∷ []) → length over.turns + 5 ≤ 160
room_behind over amounts h e =
    omega (arith, ap (λ x. length x.turns) e, nine amounts h, length-append (pins_at pin_sets (take 9 amounts)) (Over ∷ []))

-- and with those behind them they are the written turns
pub all_written : (over whole : Written) (amounts : List ℕ) → IsClock amounts
    → over ≡ of_clock (pins_at pin_sets (take 9 amounts) ++ Over ∷ [])
    → whole ≡ With over (pins_at (drop 4 pin_sets) (take 5 (drop 9 amounts))) → whole.turns ≡ written amounts
unfolding written
all_written over whole amounts h e f =
    let behind = pins_at (drop 4 pin_sets) (drop 9 amounts) in
    let five : take 5 (drop 9 amounts) ≡ drop 9 amounts = take_all 5 (drop 9 amounts) (omega (arith, length-drop 9 amounts, h.fourteen)) in
    ap (λ x. x.turns) f
    ∙ ap (λ x. over.turns ++ pins_at (drop 4 pin_sets) x) five
    ∙ ap (λ x. x.turns ++ behind) e
    ∙ append_assoc (pins_at pin_sets (take 9 amounts)) (Over ∷ []) behind

-- they are fifteen
pub length-written : (amounts : List ℕ) → IsClock amounts → length (written amounts) ≡ 15
unfolding pins_at written
length-written amounts h =
    let five : List ℕ = drop 4 pin_sets in
    let rest : length (drop 9 amounts) ≡ 5 = omega (arith, length-drop 9 amounts, h.fourteen) in
    omega (
      arith,
      nine amounts h,
      length-zip2 (λ p a. Pins p a) five (drop 9 amounts) (sym rest),
      length-append (pins_at pin_sets (take 9 amounts)) (Over ∷ pins_at five (drop 9 amounts)),
    )

-- ---- where written turns are defined

step_by : (held : HeldClock) (t : Turn) → IsTrue (is_clock_turn t) → (r : HeldClock) × (held_after held t ≡ Some r)
step_by held (Pins p a) h = (_, after_pins held.back held.dials p a h)
step_by held Over h = (_, after_over held.back held.dials)
step_by held _ h = absurd (false≢true h)

turn_of : (held r : HeldClock) (t : Turn) → held_after held t ≡ Some r → IsTrue (is_clock_turn t)
unfolding held_after
turn_of held r (Pins p a) e = (cond_some (is_clock_turn (Pins p a)) _ r e).0
turn_of held r Over e = refl
turn_of held r _ e = absurd (cc)

tells_turns : TellsTurns held_after (λ held. Unit {0}) is_clock_turn
tells_turns = record {
  does = λ held t valid h. step_by held t h;
  only = λ held r t valid e. turn_of held r t e;
  keeps = λ held r t valid e. tt;
}

-- exactly where each of them is a Clock's
pub defined-iff : (dials : List ℕ) (turns : List Turn)
    → IsSome (clock_after dials turns) ↔ All (λ t. IsTrue (is_clock_turn t)) turns
defined-iff dials turns =
    let held = held_clock dials false in
    let played = played-iff tells_turns held turns tt in
    let dials_of = is_some-map (play held_after held turns) in
    (λ some. played.0 (sym dials_of ∙ some), λ all. dials_of ∙ played.1 all)
  where
    is_some-map : (o : Option HeldClock) → is_some (option_map (λ x. x.dials) o) ≡ is_some o
    is_some-map None = refl
    is_some-map (Some r) = refl
