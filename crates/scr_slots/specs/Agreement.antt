-- Which texts agree with a slot, whoever wrote them.
use Rattle.std.specs.Prelude.{◌≡◌, ◌↔◌, ℕ, Bool, IsTrue, Option, Some, None, List}
use Rattle.scr_draw.specs.StateSpace.{StateSpace, Draws}
use Rattle.scr_notation.specs.declared.event.Event.{Event}
use Rattle.scr_notation.specs.declared.turn.Turn.{Turn}
use Rattle.scr_notation.specs.Spelling.{text_of}
use Rattle.scr_notation.specs.Written.{Written, IsWritten}
use Rattle.scr_slots.specs.declared.settings.Settings.{Settings}
use Rattle.scr_slots.specs.Promised.{Promised, States, Moves, HasMoves, slot_numbers}
use Rattle.scr_slots.specs.Slots.{Scrambling, ByState, ByMoves, event_of_scrambles, ByListing, HasNoScramble}

-- By what turns make of the solved puzzle, they lead to the state that a slot draws.
pub record LeadToDrawn {S : Type 0} (played : List Turn → Option S) (settings : Settings) (least stream : ℕ) (turns : List Turn)
    (space : StateSpace S) : Type 0 where
  pub state : S
  pub draws : Draws space least (slot_numbers settings stream) (Some state)
  pub lead : played turns ≡ Some state

-- Turns agree with a slot: they lead to the state that it draws; of random moves, they are those that it has.
abbrev pub TurnsAgree : {promised : Promised} → Scrambling promised → Settings → ℕ → ℕ → List Turn → Type 0
TurnsAgree {promised = States S drawn} (ByState event numbers IsScramble) settings least stream =
    λ turns. ByListing numbers drawn.puzzle (LeadToDrawn drawn.played settings least stream turns)
TurnsAgree {promised = Moves random} (ByMoves event) settings least stream = λ turns. HasMoves random settings stream (Some turns)

-- a text is that of a scramble of this event whose turns agree
pub record IsTextOf (event : Event) (Agree : List Turn → Type 0) (text : List ℕ) : Type 0 where
  pub scramble : Written
  pub written : IsWritten scramble
  pub event_is : scramble.event ≡ event
  pub is : text_of scramble.turns ≡ text
  pub agree : Agree scramble.turns

-- What is told of something: whether it agrees, or nothing where there is nothing to agree with.
abbrev pub IsTold : Type 0 → Type 0 → Option Bool → Type 0
IsTold HasNone Agrees None = HasNone
IsTold HasNone Agrees (Some told) = (HasNone → ⊥) × (IsTrue told ↔ Agrees)

-- a text agrees with a slot
abbrev pub TextAgrees : {promised : Promised} → Scrambling promised → Settings → ℕ → ℕ → List ℕ → Type 0
TextAgrees scrambling settings least stream = IsTextOf (event_of_scrambles scrambling) (TurnsAgree scrambling settings least stream)

-- what is told of a slot and a text
abbrev pub IsJudged : {promised : Promised} → Scrambling promised → Settings → ℕ → ℕ → List ℕ → Option Bool → Type 0
IsJudged scrambling settings least stream text =
    IsTold (HasNoScramble scrambling settings least stream) (TextAgrees scrambling settings least stream text)
