-- A slot has one answer.
use Rattle.std.proofs.Common.{◌≡◌, ℕ, ◌≤◌, List, Option, Some, None, refl, sym, ap, ◌∙◌, subst}
use Rattle.std.proofs.lemmas.Option.{same_Some}
use Rattle.scr_combinatorics.specs.Numbered.{Numbers}
use Rattle.scr_combinatorics.specs.Reach.{Puzzle, IsReached}
use Rattle.scr_notation.specs.declared.turn.Turn.{Turn}
use Rattle.scr_notation.specs.declared.event.Event.{Event}
use Rattle.scr_notation.specs.Written.{Written}
use Rattle.scr_slots.specs.declared.settings.Effort.{Effort}
use Rattle.scr_slots.specs.declared.settings.Settings.{Settings}
use Rattle.scr_slots.specs.Promised.{DrawnPuzzle, RandomMoves, States, Moves, slot_numbers}
use Rattle.scr_slots.specs.Slots.{ByState, ByMoves, IsSlotScramble}
use Rattle.scr_slots.specs.Outcomes.{HasOneAnswer}
use Rattle.scr_slots.proofs.Listings.{IsOutcome, one-outcome}

-- two scrambles of one event with one list of turns
one_scramble_by : (a b : Written) → a.event ≡ b.event → a.turns ≡ b.turns → a ≡ b
one_scramble_by a b events turns =
    let first : a ≡ record { event = b.event; turns = a.turns } = ap (λ (e : Event). record { event = e; turns = a.turns }) events in
    first ∙ ap (λ (t : List Turn). record { event = b.event; turns = t }) turns

-- a state that turns reach has one scramble
abbrev pub IsOnly : {S : Type 0} → Puzzle S → (Effort → S → List Turn → Type 0) → Type 0
IsOnly {S} puzzle IsScramble = (effort : Effort) (state : S) (turns other : List Turn) → IsReached puzzle state → IsScramble effort state turns
    → IsScramble effort state other → turns ≡ other

-- Then a slot has one answer: its numbers draw one state at most, whichever test tells what states need.
module _ {S : Type 0} (event : Event) (drawn : DrawnPuzzle S) (n : Numbers S) (IsScramble : Effort → S → List Turn → Type 0)
    (least : ℕ) (some : 1 ≤ n.count) (only : IsOnly drawn.puzzle IsScramble) where
  abbrev IsDrawn : Settings → ℕ → Option S → Type 0
  IsDrawn settings stream = IsOutcome n drawn.puzzle least (slot_numbers settings stream)

  one_drawn : (settings : Settings) (stream : ℕ) (o p : Option S) → IsDrawn settings stream o
      → IsDrawn settings stream p → o ≡ p
  one_drawn settings stream = one-outcome n drawn.puzzle least some (slot_numbers settings stream)

  -- what the slot of a scramble draws
  drawn_of : (settings : Settings) (stream : ℕ) (a : Written)
      → (is : IsSlotScramble {promised = States S drawn} (ByState event n IsScramble) settings least stream a)
      → IsDrawn settings stream (Some is.turns.is.of_state.state)
  drawn_of settings stream a is = record { state_at = is.turns.state_at; listing = is.turns.listing; is = is.turns.is.of_state.draws }

  pub HasOneAnswer-state : HasOneAnswer {promised = States S drawn} (ByState event n IsScramble) least
  HasOneAnswer-state settings stream (Some a) (Some b) first second =
      let one = first.turns.is in
      let two = second.turns.is in
      let outcomes = one_drawn settings stream (Some one.of_state.state) (Some two.of_state.state)
      (drawn_of settings stream a first) (drawn_of settings stream b second) in
      let same : one.of_state.state ≡ two.of_state.state = same_Some one.of_state.state two.of_state.state outcomes in
      let P : S → Type 0 = λ s. IsScramble settings.effort s a.turns in
      let turns = only settings.effort two.of_state.state a.turns b.turns two.of_state.permitted.0 (subst P same one.scramble) two.scramble in
      ap Some (one_scramble_by a b (first.event ∙ sym second.event) turns)
  HasOneAnswer-state settings stream (Some a) None first second =
      let none = one_drawn settings stream (Some first.turns.is.of_state.state) None (drawn_of settings stream a first) second in
      cc
  HasOneAnswer-state settings stream None (Some b) first second =
      let none = one_drawn settings stream None (Some second.turns.is.of_state.state) first (drawn_of settings stream b second) in
      cc
  HasOneAnswer-state settings stream None None first second = refl

-- And a slot of random moves has those that its words give, or none.
pub HasOneAnswer-moves : (event : Event) (random : RandomMoves) (least : ℕ) → HasOneAnswer {promised = Moves random} (ByMoves event) least
HasOneAnswer-moves event random least settings stream (Some a) (Some b) first second =
    ap Some (one_scramble_by a b (first.event ∙ sym second.event) (same_Some a.turns b.turns (sym first.turns ∙ second.turns)))
HasOneAnswer-moves event random least settings stream (Some a) None first second =
    let none : Some a.turns ≡ None = sym first.turns ∙ second in
    cc
HasOneAnswer-moves event random least settings stream None (Some b) first second =
    let none : None ≡ Some b.turns = sym first ∙ second.turns in
    cc
HasOneAnswer-moves event random least settings stream None None first second = refl
