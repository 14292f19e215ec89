-- A Pyraminx by its stickers (WCA Regulations, article 12). It lies in the grid as a tetrahedron in a cube, with U, L,
-- R and B at four corners of the cube.
use Rattle.std.specs.Prelude.{ℕ, ◌+◌, List, [], ◌∷◌, ◌++◌, map, flat_map, replicate}
use Rattle.std.specs.List.{range_with_len}
use Rattle.scr_space.specs.declared.spin.Point.{Point}
use Rattle.scr_net.specs.Geometry.{point}
use Rattle.scr_picture.specs.Grid.{about_urf, about_drb, about_ulb, about_dlf, moves_of}

-- The point with these weights of the corners U, L, R and B, which add up to 9.
abbrev pub weighed : ℕ → ℕ → ℕ → ℕ → Point
weighed u l r b = point (u + l) (u + r) (u + b)

-- The nine stickers of a face, from its upper corner down, row by row, left to right, by the weights of its upper, its
-- left and its right corner as seen from outside: 7 1 1 is one of a tip, 5 2 2 of an axial piece, 4 4 1 of an edge.
abbrev pub nine_at : (ℕ → ℕ → ℕ → Point) → List Point
nine_at at =
    at 7 1 1
    ∷ at 4 4 1 ∷ at 5 2 2 ∷ at 4 1 4
    ∷ at 1 7 1 ∷ at 2 5 2 ∷ at 1 4 4 ∷ at 2 2 5 ∷ at 1 1 7 ∷ []

-- The faces F, R, L and D, which lie opposite to B, L, R and U. The upper corner of the first three is U; that of D, as
-- it is seen from below, is B.
abbrev pub pyram_points : List Point
pyram_points =
    nine_at (λ up left right. weighed up left right 0) ++ nine_at (λ up left right. weighed up 0 left right)
    ++ nine_at (λ up left right. weighed up right 0 left) ++ nine_at (λ up left right. weighed 0 right left up)

-- About the corners U, L, R and B. The sum that a turn counts is 9 and twice the weight of its corner: large turns take
-- what weighs 4 there or more, turns of tips what weighs 7.
unfoldable pub pyram_moves : List (List ℕ)
pyram_moves =
    moves_of 9 pyram_points
    (map (λ about. about 17) (about_urf ∷ about_drb ∷ about_ulb ∷ about_dlf ∷ [])
    ++ map (λ about. about 23) (about_urf ∷ about_drb ∷ about_ulb ∷ about_dlf ∷ []))

-- Each sticker has the letter of its own face, F R L D.
unfoldable pub solved_pyram_picture : List ℕ
solved_pyram_picture = flat_map (replicate 9) (range_with_len 0 4)
