-- A row of positions, which tests draw from: a turn leads one position down or to any further up, and position 0 is
-- solved. So a position needs as many turns as its number.
use Rattle.std.specs.Prelude.{◌≡◌, ℕ, ◌+◌, ◌&&◌, nat_lt, nat_le, if◌then◌else◌, Option, Some, None}
use Rattle.scr_combinatorics.specs.Reach.{Puzzle}

-- what a turn to position t makes of position s, in a row of so many
abbrev pub moved_in_row : ℕ → ℕ → ℕ → Option ℕ
moved_in_row count s t = if nat_lt t count && nat_le s (t + 1) then Some t else None

abbrev pub row_puzzle : ℕ → Puzzle ℕ
row_puzzle count = record { Turn = ℕ; after = moved_in_row count; IsSolved = λ s. s ≡ 0; counted = λ t. 1 }
