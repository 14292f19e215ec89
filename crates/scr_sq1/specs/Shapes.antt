-- The shapes of a Square-1, which say where corners and edges lie, and their numbers.
--
-- No corner lies across the cut, so that each half of a layer is filled by whole pieces. A shape is the list of the
-- halves top right, top left, bottom right and bottom left.
use Rattle.std.specs.Prelude.{◌≡◌, ℕ, zero, suc, ◌+◌, ◌-◌, ◌*◌, ◌/◌, ◌<◌, Bool, true, false, ◌==◌, nat_le, nat_lt, if◌then◌else◌, List, [], ◌∷◌, length, map, filter, take, drop, slice_index, slice_index_or, codes, All}
use Rattle.std.specs.List.{position_or_len}
use Rattle.std.specs.Str.{bytes_eq}
use Rattle.scr_combinatorics.specs.Lists.{total, occurrences, numbers_from, pick}
use Rattle.scr_combinatorics.specs.Words.{words_of}
use Rattle.scr_sq1.specs.Units.{is_corner}

-- What fills the six units of a half, clockwise: c is a unit of a corner, which fills two of them, and e an edge. There
-- is no other way to fill a half, and these are the numbers of the halves, from 0 to 12.
unfoldable pub half_words : List (List ℕ)
half_words =
    codes "eeeeee" ∷ codes "cceeee" ∷ codes "ecceee" ∷ codes "eeccee" ∷ codes "eeecce" ∷ codes "eeeecc" ∷ codes "ccccee"
    ∷ codes "ccecce" ∷ codes "cceecc" ∷ codes "ecccce" ∷ codes "eccecc" ∷ codes "eecccc" ∷ codes "cccccc" ∷ []

-- how many corners each half has: 99 is the letter c
unfoldable pub corner_counts : List ℕ
corner_counts = map (λ word. occurrences 99 word / 2) half_words

-- ---- the shape of a state

-- the half that six units are, each written as c or e: 99 and 101 are these letters
unfoldable pub half_of : List ℕ → ℕ
half_of units = position_or_len (bytes_eq (map (λ piece. if is_corner piece then 99 else 101) units)) half_words

-- the shape of a state with these units
unfoldable pub shape_of : List ℕ → List ℕ
shape_of units = map (λ k. half_of (take 6 (drop (6 * k) units))) (numbers_from 0 4)

-- ---- the numbers of shapes

-- the number of a shape: its place among the words of four halves with eight corners in all
unfoldable pub shape_number : List ℕ → ℕ
shape_number hs =
    position_or_len (bytes_eq hs) (filter (λ gs. total (pick corner_counts gs) == 8) (words_of (numbers_from 0 13) 4))

-- ---- the shape of a number

-- So many halves that have so many corners in all.
pub record AreHalves (n c : ℕ) (hs : List ℕ) : Type 0 where
  pub size : length hs ≡ n
  pub below : All (λ h. h < 13) hs
  pub corners : total (pick corner_counts hs) ≡ c

-- A shape: four halves with eight corners.
abbrev pub IsShape : List ℕ → Type 0
IsShape hs = AreHalves 4 8 hs

-- how many shapes there are
abbrev pub shape_count : ℕ
shape_count = 3678

-- in how many ways n halves can follow one that has k of c corners in all
unfoldable pub ways_after : ℕ → ℕ → ℕ → ℕ
ways_after zero c k = if c == k then 1 else 0
ways_after (suc n) c k = if nat_le k c then total (map (ways_after n (c - k)) corner_counts) else 0

-- where a number falls among runs of so many numbers: in which run, and what is left of it there
abbrev pub run_of : (ℕ → ℕ) → List ℕ → ℕ → ℕ × ℕ
run_of f [] r = (0, r)
run_of f (k ∷ ks) r = if nat_lt r (f k) then (0, r) else (let later = run_of f ks (r - f k) in (suc later.0, later.1))

-- the n halves with c corners that have number r
unfoldable pub halves_at : ℕ → ℕ → ℕ → List ℕ
halves_at zero c r = []
halves_at (suc n) c r =
    let first = run_of (ways_after n c) corner_counts r in
    first.0 ∷ halves_at n (c - slice_index corner_counts first.0) first.1

unfoldable pub shape_at : ℕ → List ℕ
shape_at r = halves_at 4 8 r

-- ---- halves as pieces, each of which is a corner or not

-- the pieces that some units are: two letters c are one corner
abbrev pub pieces_in : List ℕ → List Bool
pieces_in [] = []
pieces_in (x ∷ []) = (x == 99) ∷ []
pieces_in (x ∷ (y ∷ xs)) = if x == 99 then true ∷ pieces_in xs else false ∷ pieces_in (y ∷ xs)

-- the pieces of a half
unfoldable pub half_word : ℕ → List Bool
half_word h = pieces_in (slice_index_or half_words h [])

-- how many of some pieces are corners
abbrev pub corners_among : List Bool → ℕ
corners_among [] = 0
corners_among (true ∷ w) = suc (corners_among w)
corners_among (false ∷ w) = corners_among w

-- how many of some pieces are edges
abbrev pub edges_among : List Bool → ℕ
edges_among [] = 0
edges_among (true ∷ w) = edges_among w
edges_among (false ∷ w) = suc (edges_among w)

-- how many units some pieces fill
abbrev pub units_among : List Bool → ℕ
units_among w = 2 * corners_among w + edges_among w
