-- The pictures of puzzles of pieces. A table has the numbers of the stickers that a picture has at each place of an
-- orbit, that one first by which the digit of a piece is told, and then clockwise. A piece has the letters of its own
-- place on the solved puzzle; its sticker k stands at the place's sticker k plus its digit.
use Rattle.std.specs.Prelude.{ℕ, ◌==◌, List, [], ◌∷◌, map, slice_index, Option, option_and_then, position, unwrap_or}
use Rattle.std.specs.List.{list_any, range_with_len}
use Rattle.scr_orbit.specs.Orbits.{Orbit, added_digits}
use Rattle.scr_net.specs.Pieces.{piece_letter}
use Rattle.scr_tetra.specs.Pyraminx.{PyramState, at_axes}
use Rattle.scr_tetra.specs.Skewb.{SkewbState}
use Rattle.scr_picture.specs.Pyraminx.{solved_pyram_picture}
use Rattle.scr_picture.specs.Skewb.{solved_skewb_picture}

-- the place that has a sticker of this number
abbrev pub place_with : List (List ℕ) → ℕ → Option ℕ
place_with places i = position (list_any (λ s. s == i)) places

-- the sticker that stands there, by its own number on the solved puzzle, if a piece of this orbit does
unfoldable pub sticker_of : List (List ℕ) → Orbit → ℕ → Option ℕ
sticker_of places o i = option_and_then (piece_letter places o i) (place_with places i)

-- ---- the Skewb: UFL, UBR, DFR and DBL; ULB, DLF and DRB; and the centres U R F D L B

abbrev pub four_stickers : List (List ℕ)
four_stickers = (3 ∷ 10 ∷ 21 ∷ []) ∷ (1 ∷ 25 ∷ 6 ∷ []) ∷ (16 ∷ 14 ∷ 8 ∷ []) ∷ (18 ∷ 29 ∷ 23 ∷ []) ∷ []

abbrev pub three_stickers : List (List ℕ)
three_stickers = (0 ∷ 20 ∷ 26 ∷ []) ∷ (15 ∷ 24 ∷ 13 ∷ []) ∷ (19 ∷ 9 ∷ 28 ∷ []) ∷ []

abbrev pub centre_stickers : List (List ℕ)
centre_stickers = (2 ∷ []) ∷ (7 ∷ []) ∷ (12 ∷ []) ∷ (17 ∷ []) ∷ (22 ∷ []) ∷ (27 ∷ []) ∷ []

-- The corner UFR stands still.
unfoldable pub skewb_sticker : SkewbState → ℕ → ℕ
skewb_sticker s i =
    unwrap_or (sticker_of four_stickers s.four i)
    (unwrap_or (sticker_of three_stickers s.three i) (unwrap_or (sticker_of centre_stickers s.centres i) i))

unfoldable pub skewb_shown : SkewbState → List ℕ
skewb_shown s = map (λ i. slice_index solved_skewb_picture (skewb_sticker s i)) (range_with_len 0 30)

-- ---- the Pyraminx: the edges UL, UR, UB, LR, LB and RB; the axial pieces, and the tips, at U, L, R and B

abbrev pub edge_stickers : List (List ℕ)
edge_stickers =
    (21 ∷ 1 ∷ []) ∷ (3 ∷ 10 ∷ []) ∷ (12 ∷ 19 ∷ []) ∷ (6 ∷ 33 ∷ []) ∷ (30 ∷ 24 ∷ []) ∷ (15 ∷ 28 ∷ []) ∷ []

abbrev pub axial_stickers : List (List ℕ)
axial_stickers =
    (11 ∷ 2 ∷ 20 ∷ []) ∷ (34 ∷ 25 ∷ 5 ∷ []) ∷ (32 ∷ 7 ∷ 14 ∷ []) ∷ (29 ∷ 16 ∷ 23 ∷ []) ∷ []

abbrev pub tip_stickers : List (List ℕ)
tip_stickers = (9 ∷ 0 ∷ 18 ∷ []) ∷ (35 ∷ 26 ∷ 4 ∷ []) ∷ (31 ∷ 8 ∷ 13 ∷ []) ∷ (27 ∷ 17 ∷ 22 ∷ []) ∷ []

-- A tip stands turned as its digit and the axial piece below it together.
abbrev pub tips_of : PyramState → List ℕ
tips_of s = added_digits 3 s.body.axials s.tips

unfoldable pub pyram_sticker : PyramState → ℕ → ℕ
pyram_sticker s i =
    unwrap_or (sticker_of edge_stickers s.body.edges i)
    (unwrap_or (sticker_of axial_stickers (at_axes s.body.axials) i)
    (unwrap_or (sticker_of tip_stickers (at_axes (tips_of s)) i) i))

unfoldable pub pyram_shown : PyramState → List ℕ
pyram_shown s = map (λ i. slice_index solved_pyram_picture (pyram_sticker s i)) (range_with_len 0 36)
