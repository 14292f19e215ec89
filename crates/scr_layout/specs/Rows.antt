-- How many rows places take.
use Rattle.std.specs.Prelude.{ℕ, ◌+◌, nat_le, if◌then◌else◌, List, [], ◌∷◌}
use Rattle.scr_layout.specs.declared.rows.Place.{Place}

abbrev pub greater : ℕ → ℕ → ℕ
greater m n = if nat_le m n then n else m

-- one, or one more than the row that is furthest down; rows are counted from 0
unfoldable pub rows_of : List Place → ℕ
rows_of [] = 1
rows_of (place ∷ rest) = greater (place.row + 1) (rows_of rest)
