-- What is promised of random moves: each step takes each of its choices by equally many numbers below 2 ^ 96. Nothing
-- is promised of the states that they lead to.
use Rattle.std.specs.Prelude.{ℕ, ◌≡◌, ◌<◌, ◌^◌, Some, option_map, List, length, All, Contains}
use Rattle.scr_draw.specs.Attempt.{answer}
use Rattle.scr_draw.specs.Count.{IsCount}
use Rattle.scr_notation.specs.declared.turn.Turn.{Turn}
use Rattle.scr_bigs.specs.Choices.{IsFairChoice}
use Rattle.scr_bigs.specs.BigCubes.{cube_turns, turns_after}
use Rattle.scr_bigs.specs.Megaminx.{bits_of}

-- the steps of a big cube: the first turn, and the turn after each turn
pub record AreFairTurns (side : ℕ) : Type 0 where
  pub first : IsFairChoice (cube_turns side)
  pub later : (before : Turn) → Contains (cube_turns side) before → IsFairChoice (turns_after side before)

-- the one step of a Megaminx: each list of seventy bits is given by 2 ^ 26 numbers
abbrev pub AreFairBits : Type 0
AreFairBits = (bits : List ℕ) → length bits ≡ 70 → All (λ bit. bit < 2) bits
    → IsCount (λ v. option_map bits_of (answer (2 ^ 70) v) ≡ Some bits) (2 ^ 96) (2 ^ 26)
