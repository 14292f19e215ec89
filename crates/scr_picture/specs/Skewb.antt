-- A Skewb by its stickers (WCA Regulations, article 12).
use Rattle.std.specs.Prelude.{ℕ, List, [], ◌∷◌, flat_map, replicate}
use Rattle.std.specs.List.{range_with_len}
use Rattle.scr_space.specs.declared.spin.Point.{Point}
use Rattle.scr_net.specs.Geometry.{point_at}
use Rattle.scr_picture.specs.Grid.{about_ulb, about_dlf, about_drb, about_dbl, moves_of}

-- The five stickers of a face, by row and column: two corners' above, its centre, and two corners' below.
abbrev pub five_at : (ℕ → ℕ → Point) → List Point
five_at at = at 1 1 ∷ at 1 5 ∷ at 3 3 ∷ at 5 1 ∷ at 5 5 ∷ []

-- The faces U, R, F, D, L and B as a net shows them, in a grid to 6.
abbrev pub skewb_points : List Point
skewb_points = flat_map (λ face. five_at (point_at 6 face)) (range_with_len 0 6)

-- U turns about ULB, L about DLF, R about DRB and B about DBL, each the half of the Skewb that is nearer to this corner
-- than to the opposite one: that of a sum of at least 10, where 18 is the whole.
unfoldable pub skewb_moves : List (List ℕ)
skewb_moves = moves_of 6 skewb_points (about_ulb 10 ∷ about_dlf 10 ∷ about_drb 10 ∷ about_dbl 10 ∷ [])

-- Each sticker has the letter of its own face.
unfoldable pub solved_skewb_picture : List ℕ
solved_skewb_picture = flat_map (replicate 5) (range_with_len 0 6)
