-- The tables of the stages: what each is a table of, and how far it may reach.
use Rattle.std.specs.Prelude.{ℕ, ◌+◌, ◌*◌, ◌/◌, ◌%◌, ◌==◌, Bool, false, List, [], ◌∷◌, map, slice_index, unwrap_or, Option, Some, None}
use Rattle.std.specs.Option.{option_map}
use Rattle.std.specs.List.{list_any}
use Rattle.scr_combinatorics.specs.Lists.{numbers_from, pick, total}
use Rattle.scr_combinatorics.specs.Numbered.{Numbered}
use Rattle.scr_combinatorics.specs.Permutations.{permutation_number, permutation_at, place_of}
use Rattle.scr_combinatorics.specs.Digits.{mixed_number, mixed_digits}
use Rattle.scr_combinatorics.specs.Pairings.{pairing_number, pairing_at}
use Rattle.scr_orbit.specs.Orbits.{Orbit}
use Rattle.scr_combinatorics.specs.Play.{play}
use Rattle.scr_positions.specs.Coordinates.{Coordinate}
use Rattle.scr_positions.specs.Indexes.{indexed_coordinate}
use Rattle.scr_positions.specs.Products.{product_coordinate}
use Rattle.scr_coord.specs.Projections.{ListView, projection}
use Rattle.scr_notation.specs.declared.turn.Turn.{Turn}
use Rattle.scr_table.specs.declared.name.TableName.TheVariants.{Shapes, Pairings, Square}
use Rattle.scr_table.specs.Lines.{TableLine}
use Rattle.scr_sq1.specs.Units.{Sq1State, IsSq1, solved_sq1, sq1_after}
use Rattle.scr_sq1.specs.Shapes.{shape_of, shape_number}
use Rattle.scr_sq1.specs.Numbers.{corners_of, edges_of, laid, shape_word, sq1_of_digits}
use Rattle.scr_sq1tables.specs.Stages.{oddness, shape_stage, squaring_stage, mates, pairing_of, pairing_letter, pairing_stage, home_stage, last_stage}
use Rattle.scr_combinatorics.specs.Stages.{Stage, by_letters}

-- ---- states by an index

-- an index, if there is one, is this one
abbrev pub has_number : ℕ → Option ℕ → Bool
has_number i None = false
has_number i (Some n) = n == i

-- a letter of the next stage leads from an index to that of the solved state
abbrev pub leads_home : Numbered Sq1State → Stage Sq1State Turn → ℕ → ℕ → Bool
leads_home n next i k = has_number (n.number_of solved_sq1) (option_map n.number_of (play sq1_after (n.state_at i) (next.letter k)))

-- What a search for a stage's words sees that knows of a state its index alone: letters lead from index to index, and
-- the goals are the indexes from which a letter of the next stage leads to that of the solved state.
abbrev pub lettered_coordinate : Numbered Sq1State → Stage Sq1State Turn → Stage Sq1State Turn → Coordinate
lettered_coordinate n stage next =
    indexed_coordinate n stage.letters (by_letters sq1_after stage.letters stage.letter)
    (λ i. list_any (leads_home n next i) (numbers_from 0 next.letters))

-- ---- the shapes

-- the shape's number, above whether the lists of corners and of edges differ in parity
unfoldable pub shapes_index : Sq1State → ℕ
shapes_index s = oddness s + 2 * shape_number (shape_of s.units)

-- a state with this index: it has the shape, and the corners in order; the edges are in order too, or, as in list number 5040, the first
-- two are exchanged, so that the list is odd
unfoldable pub shapes_state : ℕ → Sq1State
shapes_state i = sq1_of_digits (0 ∷ 0 ∷ 5040 * (i % 2) ∷ i / 2 ∷ [])

-- states by this index
abbrev pub shapes_numbered : Numbered Sq1State
shapes_numbered = record { count = 7356; state_at = shapes_state; number_of = shapes_index; IsValid = IsSq1 }

abbrev pub shapes_coordinate : Coordinate
shapes_coordinate = lettered_coordinate shapes_numbered shape_stage squaring_stage

-- ---- the pairings

-- The lists of corners and of edges that a letter makes of the solved state: a letter of the later stages moves the
-- pieces of each normal state by these places.
unfoldable pub units_after : (ℕ → List Turn) → ℕ → List ℕ
units_after letter n = (unwrap_or (play sq1_after solved_sq1 (letter n)) solved_sq1).units

abbrev pub letters_by : (List ℕ → List ℕ) → (ℕ → List Turn) → List Orbit
letters_by pieces_of letter =
    map (λ n. let r : Orbit = record { pieces = pieces_of (units_after letter n); digits = [] } in r)
    (numbers_from 0 32)

-- partners when pieces are moved, where each place gets the piece of a named place
unfoldable pub carried_pairing : List ℕ → List ℕ → List ℕ
carried_pairing partners places = map (λ place. place_of (slice_index partners place) places) places

-- the number of the corners' pairing, and above it that of the edges'
abbrev pub pairings_index : Sq1State → ℕ
pairings_index s =
    pairing_number 4 (pairing_of (corners_of s.units)) + 105 * pairing_number 4 (pairing_of (edges_of s.units))

abbrev pub pairings_view : ListView
pairings_view = record {
  count = 105;
  list_at = pairing_at 4;
  number_of = pairing_number 4;
  turned = λ partners turn. carried_pairing partners turn.pieces;
  goal = mates;
}

abbrev pub pairings_coordinate : Coordinate
pairings_coordinate =
    product_coordinate (projection pairings_view (letters_by corners_of pairing_letter))
    (projection pairings_view (letters_by edges_of pairing_letter))

-- ---- the square

-- which pair of mates a piece is of, from 0, and whether it is the larger of the two; of places it is the same
abbrev pub pair_of : List ℕ
pair_of = 0 ∷ 1 ∷ 0 ∷ 1 ∷ 2 ∷ 3 ∷ 2 ∷ 3 ∷ []

abbrev pub is_larger : List ℕ
is_larger = 0 ∷ 0 ∷ 1 ∷ 1 ∷ 0 ∷ 0 ∷ 1 ∷ 1 ∷ []

-- the smaller place of each pair of places, which are also the smaller pieces of the pairs
abbrev pub smaller : List ℕ
smaller = 0 ∷ 1 ∷ 4 ∷ 5 ∷ []

-- which pair of mates stands on each pair of places, as the number of that list
unfoldable pub pairs_number : List ℕ → ℕ
pairs_number pieces = permutation_number (pick pair_of (pick pieces smaller))

-- for each pair of places a bit, which is 1 where the smaller place has the larger piece: the first is the least digit
unfoldable pub bits_number : List ℕ → ℕ
bits_number pieces = mixed_number (2 ∷ 2 ∷ 2 ∷ 2 ∷ []) (pick is_larger (pick pieces smaller))

-- the pieces of which these are the numbers of the bits and of the list of pairs
unfoldable pub paired_at : ℕ → ℕ → List ℕ
paired_at bits pairs =
    let standing : List ℕ = permutation_at 4 pairs in
    let turned : List ℕ = mixed_digits (2 ∷ 2 ∷ 2 ∷ 2 ∷ []) bits in
    map (λ place. let pair : ℕ = slice_index pair_of place in
    slice_index smaller (slice_index standing pair) + 2 * ((slice_index turned pair + slice_index is_larger place) % 2))
    (numbers_from 0 8)

-- such a list by its code: the number of the bits, above it that of the list of pairs
unfoldable pub code_number : List ℕ → ℕ
code_number pieces = bits_number pieces + 16 * pairs_number pieces

-- the list with a code
unfoldable pub code_at : ℕ → List ℕ
code_at code = paired_at (code % 16) (code / 16)

-- 1 where the list with this code is odd
abbrev pub row_parity : ℕ → ℕ
row_parity code = total (mixed_digits (2 ∷ 2 ∷ 2 ∷ 2 ∷ []) (code % 16)) % 2

-- The codes stand in two rows, those of even lists and those of odd ones: the place of a code in its row leaves out the
-- last bit, which the others and the row tell.
abbrev pub place_in_row : ℕ → ℕ
place_in_row code = code % 8 + 8 * (code / 16)

-- the code at each of the 192 places of the even row, and behind them at those of the odd one
abbrev pub code_in_row : ℕ → ℕ
code_in_row r = r % 8 + 8 * ((total (mixed_digits (2 ∷ 2 ∷ 2 ∷ []) (r % 8)) + r / 192) % 2) + 16 * (r / 8 % 24)

-- The place of the edges' code in its row, above it the corners' code. This tells the row, since both lists have one
-- parity.
unfoldable pub square_index : Sq1State → ℕ
square_index s = place_in_row (code_number (edges_of s.units)) + 192 * code_number (corners_of s.units)

-- where the edges' code of an index stands in the two rows
abbrev pub row_place : ℕ → ℕ
row_place i = i % 192 + 192 * row_parity (i / 192)

-- a state with this index
unfoldable pub square_state : ℕ → Sq1State
square_state i = record {
  units = laid (shape_word (shape_of solved_sq1.units)) (code_at (i / 192)) (code_at (code_in_row (row_place i)));
  equator = false;
}

-- states by this index
abbrev pub square_numbered : Numbered Sq1State
square_numbered = record { count = 73728; state_at = square_state; number_of = square_index; IsValid = IsSq1 }

abbrev pub square_coordinate : Coordinate
square_coordinate = lettered_coordinate square_numbered home_stage last_stage

-- ---- the tables

abbrev pub shapes_line : TableLine
shapes_line = record { name = Shapes; coordinate = shapes_coordinate; bound = shape_stage.bound }

abbrev pub pairings_line : TableLine
pairings_line = record { name = Pairings; coordinate = pairings_coordinate; bound = pairing_stage.bound }

abbrev pub square_line : TableLine
square_line = record { name = Square; coordinate = square_coordinate; bound = home_stage.bound }

-- in the order in which they are built
abbrev pub sq1_lines : List TableLine
sq1_lines = shapes_line ∷ pairings_line ∷ square_line ∷ []
