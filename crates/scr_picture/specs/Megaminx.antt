-- A Megaminx by its stickers (WCA Regulations, article 12). The faces U F R BR BL L D B DBR DR DL DBL are 0 to 11:
-- around U, clockwise, lie F L BL BR R, and opposite to U and these lie D, B, DBR, DR, DL and DBL.
use Rattle.std.specs.Prelude.{ℕ, Bool, ◌+◌, ◌%◌, ◌==◌, if◌then◌else◌, List, [], ◌∷◌, map, position, slice_index, slice_index_or, Option, flat_map, replicate, unwrap_or}
use Rattle.std.specs.List.{list_any, range_with_len}
use Rattle.std.specs.Option.{option_map}
use Rattle.std.specs.Str.{bytes_eq}
use Rattle.scr_picture.specs.Stickers.{sources}

-- the faces beside each face, clockwise as seen from outside, beginning with the one of the least number
abbrev pub beside : List (List ℕ)
beside =
    (1 ∷ 5 ∷ 4 ∷ 3 ∷ 2 ∷ []) ∷ (0 ∷ 2 ∷ 9 ∷ 10 ∷ 5 ∷ []) ∷ (0 ∷ 3 ∷ 8 ∷ 9 ∷ 1 ∷ [])
    ∷ (0 ∷ 4 ∷ 7 ∷ 8 ∷ 2 ∷ []) ∷ (0 ∷ 5 ∷ 11 ∷ 7 ∷ 3 ∷ []) ∷ (0 ∷ 1 ∷ 10 ∷ 11 ∷ 4 ∷ [])
    ∷ (7 ∷ 11 ∷ 10 ∷ 9 ∷ 8 ∷ []) ∷ (3 ∷ 4 ∷ 11 ∷ 6 ∷ 8 ∷ []) ∷ (2 ∷ 3 ∷ 7 ∷ 6 ∷ 9 ∷ [])
    ∷ (1 ∷ 2 ∷ 8 ∷ 6 ∷ 10 ∷ []) ∷ (1 ∷ 9 ∷ 6 ∷ 11 ∷ 5 ∷ []) ∷ (4 ∷ 5 ∷ 10 ∷ 6 ∷ 7 ∷ []) ∷ []

-- the face opposite to each
abbrev pub opposites : List ℕ
opposites = 6 ∷ 7 ∷ 11 ∷ 10 ∷ 9 ∷ 8 ∷ 0 ∷ 1 ∷ 5 ∷ 4 ∷ 3 ∷ 2 ∷ []

-- The stickers of a face: its centre, and then, clockwise, the one beside each neighbour and the one in the corner
-- behind it. A sticker is told by the faces that it touches: its own, and those beside it, clockwise.
abbrev pub neighbour : ℕ → ℕ → ℕ
neighbour face k = slice_index (slice_index_or beside face []) (k % 5)

abbrev pub two_beside : ℕ → ℕ → List (List ℕ)
two_beside face k =
    (face ∷ neighbour face k ∷ []) ∷ (face ∷ neighbour face k ∷ neighbour face (k + 1) ∷ []) ∷ []

abbrev pub face_stickers : ℕ → List (List ℕ)
face_stickers face = (face ∷ []) ∷ flat_map (two_beside face) (range_with_len 0 5)

-- all 132, in the order of a picture
abbrev pub minx_stickers : List (List ℕ)
minx_stickers = flat_map face_stickers (range_with_len 0 12)

-- ---- turns

-- where a fifth about a face, clockwise as seen from outside, takes the faces that lie around it
abbrev pub next_around : ℕ → ℕ → Option ℕ
next_around face around =
    let ring = slice_index_or beside face [] in
    option_map (λ k. slice_index ring ((k + 1) % 5)) (position (λ f. f == around) ring)

-- and where it takes any face: those around the opposite face go along with their opposites
abbrev pub fifth : ℕ → ℕ → ℕ
fifth face other =
    unwrap_or (next_around face other)
    (unwrap_or (option_map (slice_index opposites) (next_around face (slice_index opposites other))) other)

abbrev pub touches : ℕ → List ℕ → Bool
touches face sticker = list_any (λ f. f == face) sticker

-- U turns what touches U by a fifth.
abbrev pub up_fifth : List ℕ → List ℕ
up_fifth sticker = if touches 0 sticker then map (fifth 0) sticker else sticker

-- R++ turns all that doesn't touch L, by two fifths about the face opposite to L, which is DBR; D++ all that doesn't
-- touch U, by two fifths about D.
abbrev pub all_but : ℕ → List ℕ → List ℕ
all_but kept sticker =
    let about = slice_index opposites kept in
    if touches kept sticker then sticker else map (λ f. fifth about (fifth about f)) sticker

-- The moves R++, D++ and U.
unfoldable pub minx_moves : List (List ℕ)
minx_moves =
    sources bytes_eq minx_stickers (all_but 5) ∷ sources bytes_eq minx_stickers (all_but 0)
    ∷ sources bytes_eq minx_stickers up_fifth ∷ []

-- Each sticker has the letter of its own face.
unfoldable pub solved_minx : List ℕ
solved_minx = flat_map (replicate 11) (range_with_len 0 12)
