-- The numbers of the states of a Square-1.
use Rattle.std.specs.Prelude.{ℕ, ◌+◌, ◌-◌, Bool, true, false, not, ◌==◌, if◌then◌else◌, List, [], ◌∷◌, map, slice_index, filter, flat_map}
use Rattle.scr_combinatorics.specs.Lists.{pick}
use Rattle.scr_combinatorics.specs.Permutations.{permutation_number, permutation_at}
use Rattle.scr_combinatorics.specs.Numbered.{Numbers, numbers_by_digits, Numbered, numbered_by_digits}
use Rattle.scr_sq1.specs.Units.{Sq1State, IsSq1, is_corner}
use Rattle.scr_sq1.specs.Shapes.{half_word, shape_of, shape_number, shape_at}

-- the corners in unit order: every second one of their sixteen units, since each fills two, one behind the other
unfoldable pub corners_of : List ℕ → List ℕ
corners_of units = pick (filter is_corner units) (0 ∷ 2 ∷ 4 ∷ 6 ∷ 8 ∷ 10 ∷ 12 ∷ 14 ∷ [])

-- the edges in unit order, edge n for piece 8 + n
unfoldable pub edges_of : List ℕ → List ℕ
edges_of units = map (λ piece. piece - 8) (filter (λ piece. not (is_corner piece)) units)

-- The units of pieces that lie one behind the other: where a word has a corner, the next corner fills two units, and
-- else the next edge fills one.
abbrev pub laid : List Bool → List ℕ → List ℕ → List ℕ
laid [] cs es = []
laid (true ∷ w) [] es = []
laid (true ∷ w) (c ∷ cs) es = c ∷ c ∷ laid w cs es
laid (false ∷ w) cs [] = []
laid (false ∷ w) cs (e ∷ es) = (8 + e) ∷ laid w cs es

-- the pieces of a shape, one half behind the other
unfoldable pub shape_word : List ℕ → List Bool
shape_word hs = flat_map half_word hs

-- The equator, the numbers of the list of corners and of the list of edges, and the number of the shape.
unfoldable pub sq1_digits : Sq1State → List ℕ
sq1_digits s =
    (if s.equator then 1 else 0) ∷ permutation_number (corners_of s.units) ∷ permutation_number (edges_of s.units)
    ∷ shape_number (shape_of s.units) ∷ []

-- The numbered states of a Square-1, 11,958,666,854,400 of them. The bases are how many equators, lists of corners,
-- lists of edges and shapes there are: the equator is the least digit.
abbrev pub sq1_numbers : Numbers Sq1State
sq1_numbers = numbers_by_digits (2 ∷ 40320 ∷ 40320 ∷ 3678 ∷ []) sq1_digits IsSq1

unfoldable pub sq1_of_digits : List ℕ → Sq1State
sq1_of_digits ds = record {
  units = laid (shape_word (shape_at (slice_index ds 3))) (permutation_at 8 (slice_index ds 1))
      (permutation_at 8 (slice_index ds 2));
  equator = slice_index ds 0 == 1;
}

-- and with the state of each number
abbrev pub sq1_numbered : Numbered Sq1State
sq1_numbered = numbered_by_digits (2 ∷ 40320 ∷ 40320 ∷ 3678 ∷ []) sq1_of_digits sq1_digits IsSq1
