-- The corners of a 3x3x3 by tetrads, and what tells whether half turns alone carry them to their places (after
-- Thistlethwaite).
--
-- A tetrad is four corners of which each two are at one face together. Half turns carry a corner to places of its own
-- tetrad alone. Corners are numbered 0 URF, 1 UFL, 2 ULB, 3 UBR, 4 DFR, 5 DLF, 6 DBL, 7 DRB, places and pieces alike.
use Rattle.std.specs.Prelude.{ℕ, ◌+◌, ◌*◌, ◌/◌, ◌%◌, ◌==◌, ◌&&◌, not, List, [], ◌∷◌, ◌++◌, map, find, unwrap_or, slice_index, slice_index_or}
use Rattle.scr_combinatorics.specs.Lists.{numbers_from, pick}
use Rattle.scr_combinatorics.specs.Permutations.{place_of, inverse, permutation_number, permutation_at}
use Rattle.scr_combinatorics.specs.PlaceSets.{place_set_number, place_set_at}
use Rattle.scr_orbit.specs.Orbits.{Orbit}
use Rattle.scr_positions.specs.Coordinates.{Coordinate}
use Rattle.scr_coord.specs.Projections.{ListView, projection, marked_places, stands_in}
use Rattle.scr_cube.specs.Stickers.{corner_faces}

abbrev pub first_tetrad : List ℕ
first_tetrad = 0 ∷ 2 ∷ 5 ∷ 7 ∷ []

abbrev pub second_tetrad : List ℕ
second_tetrad = 1 ∷ 3 ∷ 4 ∷ 6 ∷ []

-- The axis of two corners of a tetrad: that of the face at which both are. Up and down is 0, right and left 1, front
-- and back 2.
unfoldable pub shared_axis : ℕ → ℕ → ℕ
shared_axis a b =
    unwrap_or (find (stands_in (slice_index_or corner_faces b [])) (slice_index_or corner_faces a [])) 0 % 3

-- the axes of the first of some corners and each of the others
unfoldable pub axes_of : List ℕ → List ℕ
axes_of [] = []
axes_of (x ∷ xs) = map (shared_axis x) xs

-- the places at which the corners of a tetrad stand, and these corners in the order of their places
abbrev pub places_of_tetrad : List ℕ → List ℕ → List ℕ
places_of_tetrad tetrad corners = marked_places (stands_in tetrad) corners

abbrev pub corners_of_tetrad : List ℕ → List ℕ → List ℕ
corners_of_tetrad tetrad corners = pick corners (places_of_tetrad tetrad corners)

-- How the axes of two lists are to one another: the number of the list of the places at which the first list's stand in
-- the second.
unfoldable pub relation_number : List ℕ → List ℕ → ℕ
relation_number axes others = permutation_number (map (λ axis. place_of axis others) axes)

-- The relation of a list of corners: that of the axes of both tetrads. Half turns of solved leave it as it is, since
-- they exchange the axes of both tetrads alike.
unfoldable pub relation_of : List ℕ → ℕ
relation_of corners =
    relation_number (axes_of (corners_of_tetrad first_tetrad corners))
    (axes_of (corners_of_tetrad second_tetrad corners))

-- The relation, and the set of the places of the first tetrad.
unfoldable pub corner_index : List ℕ → ℕ
corner_index corners = relation_of corners + 6 * place_set_number 8 (places_of_tetrad first_tetrad corners)

-- ---- lists of corners with an index

-- corners that stand at these places, one after the other
abbrev pub arranged : List ℕ → List ℕ → List ℕ
arranged places corners = pick corners (inverse places)

-- the corner of the second tetrad that has this axis with one of them
unfoldable pub corner_across : ℕ → ℕ → ℕ
corner_across corner axis =
    unwrap_or (find (λ c. not (c == corner) && (shared_axis corner c == axis)) second_tetrad) corner

-- the corners of the second tetrad of which this is the first, and whose axes are these
unfoldable pub second_with : ℕ → List ℕ → List ℕ
second_with corner axes = corner ∷ map (corner_across corner) axes

-- the other four places
unfoldable pub other_places : List ℕ → List ℕ
other_places places = marked_places (λ place. not (stands_in places place)) (numbers_from 0 8)

-- the first tetrad in order, and the second beside it with this relation
unfoldable pub corners_related : ℕ → List ℕ
corners_related relation =
    first_tetrad ++ second_with 1 (arranged (permutation_at 3 relation) (axes_of first_tetrad))

-- A list of corners that has this index.
unfoldable pub corners_at : ℕ → List ℕ
corners_at index =
    let places = place_set_at 8 4 (index / 6) in
    arranged (places ++ other_places places) (corners_related (index % 6))

-- Lists of corners by so many numbers; turns go by their places, and the goal is the list in order.
abbrev pub corners_view : ℕ → (ℕ → List ℕ) → (List ℕ → ℕ) → ListView
corners_view count list_at number_of = record {
  count = count;
  list_at = list_at;
  number_of = number_of;
  turned = λ corners turn. pick corners turn.pieces;
  goal = numbers_from 0 8;
}

-- as a coordinate
abbrev pub corners_coordinate : ℕ → (ℕ → List ℕ) → (List ℕ → ℕ) → List Orbit → Coordinate
corners_coordinate count list_at number_of turns = projection (corners_view count list_at number_of) turns

-- by their indexes
abbrev pub tetrads_view : ListView
tetrads_view = corners_view 420 corners_at corner_index

-- ---- the lists of corners with the index of solved

-- the pieces at the places of a block, told by their places in it
abbrev pub in_block : List ℕ → List ℕ → List ℕ
in_block block pieces = map (λ piece. place_of piece block) (pick pieces block)

-- the number of such a list: that of the first tetrad at its places, and which corner is the first of the second tetrad
unfoldable pub half_corners_number : List ℕ → ℕ
half_corners_number corners =
    place_of (slice_index corners 1) second_tetrad + 4 * permutation_number (in_block first_tetrad corners)

-- the one with a number
unfoldable pub half_corners_at : ℕ → List ℕ
half_corners_at number =
    let first = pick first_tetrad (permutation_at 4 (number / 4)) in
    arranged (first_tetrad ++ second_tetrad)
    (first ++ second_with (slice_index second_tetrad (number % 4)) (axes_of first))

abbrev pub half_corners_view : ListView
half_corners_view = corners_view 96 half_corners_at half_corners_number
