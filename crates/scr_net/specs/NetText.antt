-- A net as text: U above F and D below it, beside L, R and B. The layout is our own choice.
use Rattle.std.specs.Prelude.{ℕ, ◌+◌, List, [], ◌∷◌, ◌++◌, map, codes, flat_map, replicate, slice_index}
use Rattle.std.specs.List.{slice_index_or, range_with_len}
use Rattle.scr_text.specs.Lines.{text_of_lines}
use Rattle.scr_net.specs.Nets.{Letters}

-- the letter of a face
abbrev pub letter_code : ℕ → ℕ
letter_code letter = slice_index (codes "URFDLB") letter

-- a row of a face
abbrev pub row_text : Letters → ℕ → ℕ → List ℕ
row_text net row face = map letter_code (slice_index_or (slice_index_or net face []) row [])

-- rows beside each other, with a space between
abbrev pub rows_beside : Letters → ℕ → ℕ → List ℕ → List ℕ
rows_beside net row first others = row_text net row first ++ flat_map (λ face. 32 ∷ row_text net row face) others

-- a line for each row: the rows of these faces behind so many spaces
abbrev pub lines_beside : ℕ → Letters → ℕ → ℕ → List ℕ → List (List ℕ)
lines_beside side net indent first others =
    map (λ row. replicate indent 32 ++ rows_beside net row first others) (range_with_len 0 side)

-- all lines, from above
abbrev pub net_lines : ℕ → Letters → List (List ℕ)
net_lines side net =
    lines_beside side net (side + 1) 0 []
    ++ (lines_beside side net 0 4 (2 ∷ 1 ∷ 5 ∷ []) ++ lines_beside side net (side + 1) 3 [])

unfoldable pub net_text : ℕ → Letters → List ℕ
net_text side net = text_of_lines (net_lines side net)
