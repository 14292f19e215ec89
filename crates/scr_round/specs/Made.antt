-- A round that was made.
use Rattle.std.specs.Prelude.{ℕ, ◌<◌, ◌≡◌, List, map, length}
use Rattle.scr_notation.specs.declared.turn.Turn.{Turn}
use Rattle.scr_notation.specs.Written.{Written}
use Rattle.scr_list.specs.declared.round.Round.{Round}
use Rattle.scr_round.specs.Round.{IsInRange, slots_of}

-- what a contract sees of a round that was made: its place in the list, from 0, and its scrambles, one for each slot
pub record Made : Type 0 where
  pub round : Round
  pub index : ℕ
  pub scrambles : List Written

-- its numbers are in their ranges, fewer than 256 rounds stand before it, and each slot has a scramble
pub record IsMade (made : Made) : Type 0 where
  pub round : IsInRange made.round
  pub index : made.index < 256
  pub each_slot : length made.scrambles ≡ slots_of made.round

-- the turns of each scramble
abbrev pub turns_of_each : List Written → List (List Turn)
turns_of_each scrambles = map (λ scramble. scramble.turns) scrambles
