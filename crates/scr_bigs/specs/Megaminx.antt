-- The random moves of a Megaminx. That it is scrambled by random moves is by WCA Regulations, article 4; that there
-- are seven rows of ten turns is our own choice.
use Rattle.std.specs.Prelude.{ℕ, ◌+◌, ◌*◌, ◌%◌, ◌^◌, ◌==◌, Option, option_map, List, [], ◌∷◌, ◌++◌, map, replicate, slice_index}
use Rattle.std.specs.List.{flat_map}
use Rattle.scr_combinatorics.specs.Digits.{mixed_digits}
use Rattle.scr_combinatorics.specs.Lists.{numbers_from}
use Rattle.scr_draw.specs.Attempt.{answer, attempt_value}
use Rattle.scr_notation.specs.declared.turn.Turn.{Turn}
use Rattle.scr_notation.specs.declared.turn.Turn.TheVariants.{Wide}

-- the seventy bits of a number, the least first
unfoldable pub bits_of : ℕ → List ℕ
bits_of v = mixed_digits (replicate 70 2) v

-- A row, by the ten bits from 10 * row on: R (0) and D (1) by turns, `++` where the bit is 1 and `--` where it is 0, and
-- then `U` (2) where the last D is `++`, and `U'` where it is `--`.
unfoldable pub row_turns : List ℕ → ℕ → List Turn
row_turns bits row =
    let plus = λ (k : ℕ). slice_index bits (10 * row + k) == 1 in
    map (λ k. Wide (k % 2) (plus k)) (numbers_from 0 10) ++ Wide 2 (plus 9) ∷ []

-- seven rows, of seventy bits
unfoldable pub rows_turns : List ℕ → List Turn
rows_turns bits = flat_map (row_turns bits) (numbers_from 0 7)

-- The turns of a scramble: those of the bits of an attempt's answer.
unfoldable pub megaminx_moves : (ℕ → ℕ) → ℕ → Option (List Turn)
megaminx_moves word place =
    option_map (λ number. rows_turns (bits_of number)) (answer (2 ^ 70) (attempt_value word place))
