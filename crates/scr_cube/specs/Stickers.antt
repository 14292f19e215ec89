-- Pieces by the faces of their stickers. The faces U R F D L B are 0 to 5.
use Rattle.std.specs.Prelude.{ℕ, ◌+◌, ◌%◌, List, [], ◌∷◌}

-- The faces at which the stickers of each corner place are, clockwise, that of U or D first: URF, UFL, ULB, UBR, DFR,
-- DLF, DBL, DRB.
abbrev pub corner_faces : List (List ℕ)
corner_faces =
    (0 ∷ 1 ∷ 2 ∷ []) ∷ (0 ∷ 2 ∷ 4 ∷ []) ∷ (0 ∷ 4 ∷ 5 ∷ []) ∷ (0 ∷ 5 ∷ 1 ∷ [])
    ∷ (3 ∷ 2 ∷ 1 ∷ []) ∷ (3 ∷ 4 ∷ 2 ∷ []) ∷ (3 ∷ 5 ∷ 4 ∷ []) ∷ (3 ∷ 1 ∷ 5 ∷ []) ∷ []

-- The same of each edge place, the one first that tells the flip: UR, UF, UL, UB, DR, DF, DL, DB, FR, FL, BL, BR.
abbrev pub edge_faces : List (List ℕ)
edge_faces =
    (0 ∷ 1 ∷ []) ∷ (0 ∷ 2 ∷ []) ∷ (0 ∷ 4 ∷ []) ∷ (0 ∷ 5 ∷ [])
    ∷ (3 ∷ 1 ∷ []) ∷ (3 ∷ 2 ∷ []) ∷ (3 ∷ 4 ∷ []) ∷ (3 ∷ 5 ∷ [])
    ∷ (2 ∷ 1 ∷ []) ∷ (2 ∷ 4 ∷ []) ∷ (5 ∷ 4 ∷ []) ∷ (5 ∷ 1 ∷ []) ∷ []

-- the place opposite to each
abbrev pub opposite_place : ℕ → ℕ
opposite_place place = (place + 3) % 6
