-- What is promised of an event's scrambles, by whatever its states are numbered and whichever scramble a state has.
use Rattle.std.specs.Prelude.{◌≡◌, ℕ, List, Option, Some}
use Rattle.scr_words.specs.Stream.{stream_word}
use Rattle.scr_draw.specs.Attempt.{attempt_values}
use Rattle.scr_draw.specs.StateSpace.{StateSpace, Draws}
use Rattle.scr_combinatorics.specs.Reach.{Puzzle, IsPermitted}
use Rattle.scr_notation.specs.declared.turn.Turn.{Turn}
use Rattle.scr_slots.specs.declared.settings.Settings.{Settings}

-- A puzzle whose states are drawn (WCA Regulations, article 4): its turns, what the turns of a scramble make of it
-- solved, and of how few turns its scrambles are.
pub record DrawnPuzzle (S : Type 0) : Type 1 where
  pub puzzle : Puzzle S
  pub played : List Turn → Option S
  pub IsWithin : List Turn → Type 0

abbrev pub drawn_puzzle : {S : Type 0} → Puzzle S → (List Turn → Option S) → (List Turn → Type 0) → DrawnPuzzle S
drawn_puzzle puzzle played IsWithin = record { puzzle = puzzle; played = played; IsWithin = IsWithin }

-- Scrambles of random moves (WCA Regulations, article 4): the turns that words give from a place on, where each turn
-- has so many attempts, and what is promised of how they are chosen. Nothing is promised of the states that they lead
-- to.
pub record RandomMoves : Type 1 where
  pub moves : ℕ → (ℕ → ℕ) → ℕ → Option (List Turn)
  pub AreFair : Type 0

-- What is promised of an event: of the states that are drawn of a puzzle, or of random moves.
pub data Promised : Type 1 where
  States : (S : Type 0) → DrawnPuzzle S → Promised
  Moves : RandomMoves → Promised

-- The numbers that the attempts of a slot read, on the slot's stream of the seed.
abbrev pub slot_numbers : Settings → ℕ → List ℕ
slot_numbers settings stream = attempt_values (stream_word settings.seed.0 stream) 0 settings.attempts

-- Some numbers draw a state that turns reach and that needs so many, and these turns, few enough, give it: played on
-- the solved puzzle they lead to it.
pub record GivesDrawn {S : Type 0} (drawn : DrawnPuzzle S) (space : StateSpace S) (least : ℕ) (numbers : List ℕ) (turns : List Turn) : Type 0 where
  pub state : S
  pub draws : Draws space least numbers (Some state)
  pub permitted : IsPermitted drawn.puzzle least state
  pub gives : drawn.played turns ≡ Some state
  pub within : drawn.IsWithin turns

-- What a slot has of random moves: those of the slot's stream of the seed, from its first word on, or none.
abbrev pub HasMoves : RandomMoves → Settings → ℕ → Option (List Turn) → Type 0
HasMoves random settings stream moves = random.moves settings.attempts (stream_word settings.seed.0 stream) 0 ≡ moves
