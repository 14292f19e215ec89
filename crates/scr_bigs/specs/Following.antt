-- What random moves are, as relations. Laws say that the moves agree with them.
use Rattle.std.specs.Prelude.{◌≡◌, ℕ, ◌+◌, ◌*◌, ◌/◌, ◌%◌, ◌^◌, ◌<◌, ◌==◌, Some, List, All, Contains, IsTrue, length, slice_get}
use Rattle.scr_notation.specs.declared.turn.Turn.{Turn}
use Rattle.scr_notation.specs.declared.turn.Turn.TheVariants.{Face, Wide}
use Rattle.scr_bigs.specs.BigCubes.{cube_turns, may_follow, turns_made}

-- the axis of a turn of a face
abbrev pub axis_of : Turn → ℕ
axis_of (Face face layers amount) = face % 3
axis_of _ = 0

-- Turns of a big cube's scramble: so many, each one of its turns, and each may follow the one before.
pub record AreCubeTurns (side : ℕ) (turns : List Turn) : Type 0 where
  pub count : length turns ≡ turns_made side
  pub each : All (Contains (cube_turns side)) turns
  pub follow : (i : ℕ) (before next : Turn) → slice_get turns i ≡ Some before → slice_get turns (i + 1) ≡ Some next
      → IsTrue (may_follow before next)

-- Turns of a Megaminx's scramble by a number: seven rows of eleven. Turn k of a row is of R (0) or D (1), by turns,
-- `++` where the next bit of the number is 1; the last is of U (2), the way of the turn before it.
pub record AreMegaminxTurns (v : ℕ) (turns : List Turn) : Type 0 where
  pub count : length turns ≡ 77
  pub turn : (row k : ℕ) → row < 7 → k < 10
      → slice_get turns (11 * row + k) ≡ Some (Wide (k % 2) (v / 2 ^ (10 * row + k) % 2 == 1))
  pub last : (row : ℕ) → row < 7 → slice_get turns (11 * row + 10) ≡ Some (Wide 2 (v / 2 ^ (10 * row + 9) % 2 == 1))
