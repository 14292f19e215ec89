-- What a slot of a sheet draws, and what its scramble is.
use Rattle.std.specs.Prelude.{◌≡◌, ℕ, ◌*◌, List, Option, Some, None}
use Rattle.scr_combinatorics.specs.Numbered.{Numbers}
use Rattle.scr_combinatorics.specs.Numbering.{IsOneToOne}
use Rattle.scr_combinatorics.specs.Reach.{Puzzle}
use Rattle.scr_draw.specs.StateSpace.{StateSpace, Draws, IsFairFor}
use Rattle.scr_notation.specs.declared.event.Event.{Event}
use Rattle.scr_notation.specs.declared.turn.Turn.{Turn}
use Rattle.scr_notation.specs.Written.{Written, IsWritten}
use Rattle.scr_slots.specs.declared.settings.Effort.{Effort}
use Rattle.scr_slots.specs.declared.settings.Settings.{Settings}
use Rattle.scr_slots.specs.Promised.{DrawnPuzzle, RandomMoves, Promised, States, Moves, GivesDrawn, HasMoves, slot_numbers}

-- How something is scrambled of which this is promised, and the event that its scrambles are of, by whose notation they
-- are written: by states, each drawn by its number, where it is told which turns are the scramble of a state to which a
-- solver gives so much effort; or by random moves.
pub data Scrambling : Promised → Type 1 where
  ByState : {S : Type 0} {drawn : DrawnPuzzle S} → Event → Numbers S → (Effort → S → List Turn → Type 0)
      → Scrambling (States S drawn)
  ByMoves : {random : RandomMoves} → Event → Scrambling (Moves random)

abbrev pub event_of_scrambles : {promised : Promised} → Scrambling promised → Event
event_of_scrambles (ByState event numbers IsScramble) = event
event_of_scrambles (ByMoves event) = event

-- It is so of what is drawn from, by a listing of the states: at each number below the count stands the state that has
-- it. (There is one, and it makes no difference which: they are alike below the count.)
pub record ByListing {S : Type 0} (numbers : Numbers S) (puzzle : Puzzle S) (Is : StateSpace S → Type 0) : Type 0 where
  pub state_at : ℕ → S
  pub listing : IsOneToOne numbers.count state_at numbers.number_of numbers.IsValid
  pub is : Is (record { count = numbers.count; state_at = state_at; puzzle = puzzle })

-- The turns of a slot's scramble: those of the state that the slot draws.
pub record IsDrawnScramble {S : Type 0} (drawn : DrawnPuzzle S) (IsScramble : Effort → S → List Turn → Type 0) (settings : Settings)
    (least stream : ℕ) (turns : List Turn) (space : StateSpace S) : Type 0 where
  pub of_state : GivesDrawn drawn space least (slot_numbers settings stream) turns
  pub scramble : IsScramble settings.effort of_state.state turns

abbrev pub AreSlotTurns : {promised : Promised} → Scrambling promised → Settings → ℕ → ℕ → List Turn → Type 0
AreSlotTurns {promised = States S drawn} (ByState event numbers IsScramble) settings least stream turns =
    ByListing numbers drawn.puzzle (IsDrawnScramble drawn IsScramble settings least stream turns)
AreSlotTurns {promised = Moves random} (ByMoves event) settings least stream turns = HasMoves random settings stream (Some turns)

-- A slot's scramble: its event and its turns, all of which the event has.
pub record IsSlotScramble {promised : Promised} (scrambling : Scrambling promised) (settings : Settings) (least stream : ℕ) (scramble : Written) : Type 0 where
  pub event : scramble.event ≡ event_of_scrambles scrambling
  pub written : IsWritten scramble
  pub turns : AreSlotTurns scrambling settings least stream scramble.turns

-- A slot has no scramble: each of its attempts misses, or all those of one of its random moves are refused.
abbrev pub HasNoScramble : {promised : Promised} → Scrambling promised → Settings → ℕ → ℕ → Type 0
HasNoScramble {promised = States S drawn} (ByState event numbers IsScramble) settings least stream =
    ByListing numbers drawn.puzzle (λ space. Draws space least (slot_numbers settings stream) None)
HasNoScramble {promised = Moves random} (ByMoves event) settings least stream = HasMoves random settings stream None

-- The answer of a slot: its scramble, or that it has none.
abbrev pub IsSlotAnswer : {promised : Promised} → Scrambling promised → Settings → ℕ → ℕ → Option Written → Type 0
IsSlotAnswer scrambling settings least stream (Some scramble) = IsSlotScramble scrambling settings least stream scramble
IsSlotAnswer scrambling settings least stream None = HasNoScramble scrambling settings least stream

-- What fairness says of an event: every state that turns reach and that needs so many is drawn by equally many lists of
-- numbers. Of random moves it says only that each step takes each of its choices by equally many numbers.
abbrev pub IsDrawnFairly : {promised : Promised} → Scrambling promised → ℕ → Type 0
IsDrawnFairly {promised = States S drawn} (ByState event numbers IsScramble) least = ByListing numbers drawn.puzzle (λ space. IsFairFor space least)
IsDrawnFairly {promised = Moves random} (ByMoves event) least = random.AreFair

-- Slot 0 of round k of a list has this stream, both counted from 0, and slot j the stream j further on.
abbrev pub first_stream : ℕ → ℕ
first_stream k = 1024 * k
