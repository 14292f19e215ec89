-- What a contract sees of a scramble.
use Rattle.std.specs.Prelude.{◌≡◌, ℕ, ◌≤◌, ◌==◌, IsTrue, if◌then◌else◌, List, ◌∷◌, ◌++◌, length, All, map, Option, Some}
use Rattle.scr_notation.specs.declared.event.Event.{Event}
use Rattle.scr_notation.specs.declared.turn.Turn.{Turn}
use Rattle.scr_notation.specs.Event.{kind_of}
use Rattle.scr_notation.specs.TurnNumbers.{turn_at}
use Rattle.scr_notation.specs.Turns.{permits}

-- an event and its turns, in order
pub record Written : Type 0 where
  pub event : Event
  pub turns : List Turn

-- at most 160 turns, each of which the event has
pub record IsWritten (s : Written) : Type 0 where
  pub room : length s.turns ≤ 160
  pub permitted : All (λ t. IsTrue (permits s.event t)) s.turns

-- the word of an event's turns with these numbers
abbrev pub numbered_word : Event → List ℕ → Written
numbered_word event numbers = record { event = event; turns = map (turn_at (kind_of event)) numbers }

-- at most so many turns
abbrev pub at_most : ℕ → List Turn → Type 0
at_most most turns = length turns ≤ most

-- What is promised of the scramble of a state, however it is found: it is of this event, it is the one scramble that the
-- state has, its turns are as few as is said, and played on the solved puzzle it gives the state.
pub record IsTheScramble {S : Type 0} (event : Event) (IsScramble : S → List Turn → Type 0) (IsWithin : List Turn → Type 0)
    (played : List Turn → Option S) (state : S) (s : Written) : Type 0 where
  pub of_event : s.event ≡ event
  pub scramble : IsScramble state s.turns
  pub only : (turns : List Turn) → IsScramble state turns → turns ≡ s.turns
  pub within : IsWithin s.turns
  pub gives : played s.turns ≡ Some state

-- a text with one more word, behind a space unless it is the first
unfoldable pub with_word : List ℕ → List ℕ → List ℕ
with_word text word = if length text == 0 then word else text ++ 32 ∷ word
