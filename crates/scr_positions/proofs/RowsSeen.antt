-- What a turn leads to in a row of values.
use Rattle.std.proofs.Common.{◌≡◌, ℕ, ◌*◌, ◌<◌, List, take, drop, Option, Some, None, get_or, refl, ap, ◌∙◌, arith}
use Rattle.std.proofs.lemmas.List.{get_or-take, get_or-drop}
use Rattle.scr_positions.specs.Coordinates.{Coordinate, StaysBelow, value_at}
use Rattle.scr_positions.specs.Products.{side_by_side}

-- the values of a row are those of the positions with its high part
pub seen_in_row : (low : Coordinate) (high p t first size : ℕ) (values : List ℕ) → StaysBelow low → p < low.count
    → t < low.turns → first ≡ high * low.count → size ≡ low.count
    → value_at (take size (drop first values)) (low.after p t) ≡ value_at values (side_by_side low.count (low.after p t) (Some high))
seen_in_row low high p t first size values below at turn begins long = by_target (low.after p t) refl
  where
    by_target : (o : Option ℕ) → low.after p t ≡ o
        → value_at (take size (drop first values)) o ≡ value_at values (side_by_side low.count o (Some high))
    by_target None e = refl
    by_target (Some q) e =
        get_or-take size (drop first values) q 0 (omega (arith, below p t q at turn e)) ∙ get_or-drop first values q 0
        ∙ ap (λ k. get_or values k 0) (omega arith)
