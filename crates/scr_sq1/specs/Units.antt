-- A Square-1 as its units and its equator, and its turns (WCA Regulations, article 12).
--
-- Each layer has twelve units, of a twelfth of a turn each. Units 0 to 11 are the top layer, clockwise as seen from
-- above, from the cut at the back on. Units 12 to 23 are the bottom layer, clockwise as seen from below, from the cut
-- at the front on. So the cut parts units 11 and 0, 5 and 6, 23 and 12, 17 and 18, and at its right are units 0 to 5
-- and 12 to 17. The pieces 0 to 7 are corners, and fill two neighbouring units of one layer; 8 to 15 are edges, and
-- fill one. Between the layers is the equator, whose right half is turned over at each twist.
use Rattle.std.specs.Prelude.{◌≡◌, ℕ, suc, ◌+◌, ◌-◌, ◌%◌, ◌<◌, ℤ, pos, negsuc, Bool, false, not, ◌==◌, ◌&&◌, nat_lt, if◌then◌else◌, List, [], ◌∷◌, ◌++◌, length, map, slice_index, Option, Some, None}
use Rattle.std.specs.List.{list_all}
use Rattle.scr_combinatorics.specs.Lists.{occurrences, numbers_from, pick}
use Rattle.scr_combinatorics.specs.Permutations.{place_of}
use Rattle.scr_combinatorics.specs.Reach.{Puzzle}
use Rattle.scr_notation.specs.declared.turn.Turn.{Turn}
use Rattle.scr_notation.specs.declared.turn.Turn.TheVariants.{Layers, Twist}
use Rattle.scr_notation.specs.Layers.{is_layer_turn}

-- Which piece each of the 24 units is of, and whether the equator stands turned.
pub record Sq1State : Type 0 where
  pub units : List ℕ
  pub equator : Bool

-- ---- valid states

-- a piece is a corner, and else an edge
abbrev pub is_corner : ℕ → Bool
is_corner piece = nat_lt piece 8

-- What can be put together, and can twist: each of the sixteen pieces is there, and behind the first unit of each
-- corner, in the same half, comes its second one. So no corner lies across the cut.
pub record IsSq1 (s : Sq1State) : Type 0 where
  pub size : length s.units ≡ 24
  pub pieces : (p : ℕ) → p < 16 → occurrences p s.units ≡ (if is_corner p then 2 else 1)
  pub corners : (p : ℕ) → p < 8 → (place_of p s.units % 6 < 5) × (slice_index s.units (suc (place_of p s.units)) ≡ p)

-- Edge piece 8 + n is called edge n.
abbrev pub solved_sq1 : Sq1State
solved_sq1 = record {
  units = 0 ∷ 0 ∷ 8 ∷ 1 ∷ 1 ∷ 9 ∷ 2 ∷ 2 ∷ 10 ∷ 3 ∷ 3 ∷ 11 ∷ 12 ∷ 4 ∷ 4 ∷ 13 ∷ 5 ∷ 5 ∷ 14 ∷ 6 ∷ 6 ∷ 15 ∷ 7 ∷ 7 ∷ [];
  equator = false;
}

-- ---- turns

-- so many twelfths as a number from 0 to 11 of twelfths clockwise
abbrev pub clockwise : ℤ → ℕ
clockwise (pos n) = n % 12
clockwise (negsuc n) = 11 - n % 12

-- Where the piece that comes to unit k stood, when the layers are turned by so many twelfths clockwise, each as seen
-- from its own side.
abbrev pub place_before : ℕ → ℕ → ℕ → ℕ
place_before top bottom k = if nat_lt k 12 then (k + (12 - top)) % 12 else 12 + (k + (12 - bottom)) % 12

-- the places of all units
unfoldable pub turn_places : ℕ → ℕ → List ℕ
turn_places top bottom = map (place_before top bottom) (numbers_from 0 24)

-- the same when the half at the right of the cut is turned over: its top and its bottom units are exchanged
unfoldable pub twist_places : List ℕ
twist_places = numbers_from 12 6 ++ numbers_from 6 6 ++ numbers_from 0 6 ++ numbers_from 18 6

-- the layers turned by so many twelfths, whether or not that is barred
unfoldable pub turned : Sq1State → ℤ → ℤ → Sq1State
turned s top bottom = record s { units = pick s.units (turn_places (clockwise top) (clockwise bottom)) }

-- two units are of one corner
abbrev pub are_of_one_corner : List ℕ → ℕ → ℕ → Bool
are_of_one_corner units j k = is_corner (slice_index units j) && (slice_index units k == slice_index units j)

-- No corner lies across the cut, at its four places.
abbrev pub is_open : List ℕ → Bool
is_open units =
    list_all {X = ℕ × ℕ} (λ c. not (are_of_one_corner units c.0 c.1)) ((11, 0) ∷ (5, 6) ∷ (23, 12) ∷ (17, 18) ∷ [])

-- A turn of the layers by so many twelfths clockwise: it is barred where a corner would lie across the cut.
unfoldable pub after_layers : Sq1State → ℤ → ℤ → Option Sq1State
after_layers s top bottom = let moved = turned s top bottom in if is_open moved.units then Some moved else None

-- A twist: the right half is turned over, with the equator.
unfoldable pub twisted : Sq1State → Sq1State
twisted s = record { units = pick s.units twist_places; equator = not s.equator }

-- What a letter makes of a state: nothing where it isn't a turn of a Square-1, or is barred.
unfoldable pub sq1_after : Sq1State → Turn → Option Sq1State
sq1_after s (Layers top bottom) = if is_layer_turn (Layers top bottom) then after_layers s top bottom else None
sq1_after s Twist = Some (twisted s)
sq1_after s _ = None

-- The Square-1 as a puzzle. Each turn of the layers counts once, and so does each twist (WCA Regulations, article 4).
abbrev pub sq1_puzzle : Puzzle Sq1State
sq1_puzzle = record { Turn = Turn; after = sq1_after; IsSolved = λ s. s ≡ solved_sq1; counted = λ t. 1 }
