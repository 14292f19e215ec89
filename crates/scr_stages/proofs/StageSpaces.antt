-- The numbers of cubes go along with the turns of their stages.
use Rattle.std.proofs.Common.{◌≡◌, ℕ, ◌+◌, ◌*◌, ◌<◌, List, map, length, refl, sym, ◌∙◌, lit<, arith}
use Rattle.std.specs.Prelude.{All, ◌↔◌}
use Rattle.std.proofs.Math.Nat.{mul_comm}
use Rattle.std.proofs.lemmas.Nat.{same_from_place}
use Rattle.std.proofs.lemmas.List.{length-map}
use Rattle.scr_combinatorics.specs.Lists.{numbers_from}
use Rattle.scr_combinatorics.specs.Permutations.{permutation_number}
use Rattle.scr_combinatorics.specs.PlaceSets.{IsPlaceSet, place_set_number}
use Rattle.scr_combinatorics.specs.Twists.{twists_number}
use Rattle.scr_combinatorics.proofs.PlaceSets.{place_set_number-lt, place_set_number-injective}
use Rattle.scr_orbit.specs.Orbits.{turned_orbit, solved_orbit}
use Rattle.scr_orbit.proofs.Parts.{ap_both}
use Rattle.scr_positions.specs.Products.{product_coordinate}
use Rattle.scr_positions.specs.SearchSpaces.{positions, Follows}
use Rattle.scr_positions.proofs.ProductLaws.{Follows-product}
use Rattle.scr_coord.specs.Projections.{projection, twists_view, place_set_view, pieces_view, stands_in}
use Rattle.scr_coord.proofs.ListViews.{IsListView-twists, IsListView-place_sets, IsListView-pieces}
use Rattle.scr_coord.proofs.MarkedPieces.{IsPlaceSet-marked}
use Rattle.scr_cube.specs.Cube333.{CubeState, IsCube, cube_monoid, solved_cube}
use Rattle.scr_cube.proofs.Laws333.{cube_laws}
use Rattle.scr_stages.specs.Stages.{HasNoFlips, IsUntwisted, IsInMiddle, IsDomino, middle_edges, slice_turns, domino_turns}
use Rattle.scr_cube.specs.ListedTurns.{after_of, cube_space, turn_numbers}
use Rattle.scr_stages.specs.Numbers.{flips_number, slice_number, first_edges, tetrads_number, IsUnflippedCube, IsDominoCube}
use Rattle.scr_stages.specs.SearchTables.{flips_table, slice_table, tetrads_table}
use Rattle.scr_stages.specs.Tables.{turns_of, corners_by, edges_by, block_turn, outer_places, flips_coordinate, slice_coordinate, tetrads_coordinate}
use Rattle.scr_stages.specs.Tetrads.{corner_index, in_block, tetrads_view}
use Rattle.scr_stages.proofs.Blocks.{places_in}
use Rattle.scr_stages.proofs.KeptBlocks.{IsPermutation-in_block, in_block-turned}
use Rattle.scr_stages.proofs.ViewLaws.{TurnsStates, kept_by, Follows-viewed, Follows-listed, Follows-goals, Follows-fewer}
use Rattle.scr_stages.proofs.TurnFacts.{after_of-turns, All-turns, flips_numbers, slice_numbers, slice_each, tetrads_numbers, tetrads_each}
use Rattle.scr_stages.proofs.TetradLaws.{corner_index-lt, corner_index-turned}
use Rattle.scr_stages.proofs.DominoLaws.{IsUnflippedCube-turned, places-turned, IsDominoCube-turned, IsPlaceSet-middle, IsPlaceSet-outer, IsPlaceSet-first_places, turned_set-outer}

-- ---- all cubes, by any turns

pub cube_moves : (numbers : List ℕ) → All (λ t. t < 18) numbers
    → TurnsStates cube_monoid.turned (turns_of numbers) (after_of numbers) IsCube
cube_moves numbers below =
    record { each = All-turns numbers below; after_is = after_of-turns numbers below; keeps = cube_laws.kept }

pub IsPlaceSet-middle_places : (c : CubeState) → IsCube c → IsPlaceSet 12 4 (places_in middle_edges c.edges.pieces)
IsPlaceSet-middle_places c h = IsPlaceSet-marked 12 4 (stands_in middle_edges) c.edges.pieces h.edges.pieces refl

module _ (numbers : List ℕ) (below : All (λ t. t < 18) numbers) where
  Follows-flips_by : Follows (cube_space IsCube numbers HasNoFlips) (positions (projection (twists_view 12 2) (edges_by numbers)))
      flips_number
  unfolding turned_orbit
  Follows-flips_by =
      Follows-listed (cube_moves numbers below) (twists_view 12 2) (IsListView-twists 12 2 (lit< tt) (lit< tt)) (λ r. r.edges) (λ c. c.edges.digits)
      (λ c h. h.edges.digits) (λ c r h t. refl)

  pub Follows-twists_by : Follows (cube_space IsCube numbers IsUntwisted)
      (positions (projection (twists_view 8 3) (corners_by numbers)))
      (λ c. twists_number 3 c.corners.digits)
  unfolding turned_orbit
  Follows-twists_by =
      Follows-listed (cube_moves numbers below) (twists_view 8 3) (IsListView-twists 8 3 (lit< tt) (lit< tt)) (λ r. r.corners) (λ c. c.corners.digits)
      (λ c h. h.corners.digits) (λ c r h t. refl)

  pub Follows-middle_by : Follows (cube_space IsCube numbers IsInMiddle)
      (positions (projection (place_set_view 12 4 middle_edges) (edges_by numbers)))
      (λ c. place_set_number 12 (places_in middle_edges c.edges.pieces))
  Follows-middle_by =
      Follows-listed (cube_moves numbers below) (place_set_view 12 4 middle_edges) (IsListView-place_sets 12 4 middle_edges IsPlaceSet-middle) (λ r. r.edges)
      (λ c. places_in middle_edges c.edges.pieces) IsPlaceSet-middle_places
      (λ c r h t. places-turned 12 2 middle_edges c.edges r.edges h.edges.pieces t.edges.pieces)

  -- the twists beside the middle layer
  pub Follows-twists_beside : Follows (cube_space IsCube numbers (λ c. IsUntwisted c × IsInMiddle c))
      (positions
      (product_coordinate (projection (twists_view 8 3) (corners_by numbers))
      (projection (place_set_view 12 4 middle_edges) (edges_by numbers))))
      slice_number
  Follows-twists_beside =
      Follows-product IsCube IsUntwisted IsInMiddle (after_of numbers) _ _ _ _ same_turns Follows-twists_by Follows-middle_by
    where
      same_turns : length (edges_by numbers) ≡ length (corners_by numbers)
      same_turns = length-map (turns_of numbers) (λ r. r.edges) ∙ sym (length-map (turns_of numbers) (λ r. r.corners))

-- ---- the edges of a block

-- The list of the edges of a block, which each of these cubes has at its own places.
pub Follows-block : {IsValid : CubeState → Type 0} (numbers : List ℕ)
    → TurnsStates cube_monoid.turned (turns_of numbers) (after_of numbers) IsValid → ((c : CubeState) → IsValid c → IsCube c)
    → (k : ℕ) (block : List ℕ) → IsPlaceSet 12 k block
    → ((c : CubeState) → IsValid c → places_in block c.edges.pieces ≡ block)
    → Follows (cube_space IsValid numbers (λ c. in_block block c.edges.pieces ≡ numbers_from 0 k))
    (positions (projection (pieces_view k) (map (λ r. block_turn block r.edges) (turns_of numbers))))
    (λ c. permutation_number (in_block block c.edges.pieces))
unfolding turned_orbit
Follows-block numbers moves cube k block set kept =
    Follows-listed moves (pieces_view k) (IsListView-pieces k) (λ r. block_turn block r.edges) (λ c. in_block block c.edges.pieces)
    (λ c h. IsPermutation-in_block 12 k block set c.edges.pieces (cube c h).edges.pieces (kept c h))
    (λ c r h t. in_block-turned 12 k block set c.edges.pieces r.edges.pieces (cube c h).edges.pieces.size (cube r t).edges.pieces.size (kept r t))

-- ---- the first two stages

pub Follows-flips : Follows flips_table.space (positions flips_coordinate) flips_number
Follows-flips = Follows-flips_by turn_numbers flips_numbers

pub Follows-slice : Follows slice_table.space (positions slice_coordinate) slice_number
Follows-slice = Follows-twists_beside slice_turns slice_numbers

unflipped_moves : TurnsStates cube_monoid.turned (turns_of slice_turns) (after_of slice_turns) IsUnflippedCube
unflipped_moves = record { each = slice_each; after_is = after_of-turns slice_turns slice_numbers; keeps = IsUnflippedCube-turned }

-- without flips it leads to dominoes
pub Follows-unflipped : Follows (cube_space IsUnflippedCube slice_turns IsDomino) (positions slice_coordinate)
    slice_number
Follows-unflipped = grind (arith, Follows-goals, Follows-fewer, kept_by unflipped_moves, Follows-slice)

-- ---- dominoes

pub tetrads_moves : TurnsStates cube_monoid.turned (turns_of domino_turns) (after_of domino_turns) IsDominoCube
tetrads_moves = record { each = tetrads_each; after_is = after_of-turns domino_turns tetrads_numbers; keeps = IsDominoCube-turned }

-- the first edges and the corners are as in a solved cube, but for half turns
pub record IsTetradsHome (c : CubeState) : Type 0 where
  pub first : places_in first_edges c.edges.pieces ≡ first_edges
  pub corners : corner_index c.corners.pieces ≡ corner_index (numbers_from 0 8)

-- the parts of a number
pub same_parts : (n a b x y : ℕ) → a < n → x < n → a + n * b ≡ x + n * y → (a ≡ x) × (b ≡ y)
same_parts n a b x y la lx e =
    grind (arith, same_from_place b a y x n la lx (omega (arith, e, mul_comm n b, mul_comm n y)))

pub tetrads_number-solved : tetrads_number solved_cube ≡ place_set_number 8 first_edges + 70 * corner_index (numbers_from 0 8)
unfolding solved_cube solved_orbit
tetrads_number-solved = refl

-- so says the number
pub IsTetradsHome-iff : (c : CubeState) → IsDominoCube c
    → (tetrads_number c ≡ tetrads_number solved_cube) ↔ IsTetradsHome c
IsTetradsHome-iff c h =
    let places = places_in first_edges c.edges.pieces in
    let set = IsPlaceSet-first_places c h in (
      λ e.
          let parts = same_parts 70 (place_set_number 8 places) (corner_index c.corners.pieces) (place_set_number 8 first_edges) (corner_index (numbers_from 0 8))
          (place_set_number-lt 8 4 places set) (place_set_number-lt 8 4 first_edges IsPlaceSet-outer) (e ∙ tetrads_number-solved) in
          record { first = place_set_number-injective 8 4 places first_edges set IsPlaceSet-outer parts.0; corners = parts.1 },
      λ home. ap_both (λ set i. place_set_number 8 set + 70 * i) home.first home.corners ∙ sym tetrads_number-solved,
    )

pub Follows-tetrads : Follows tetrads_table.space (positions tetrads_coordinate) tetrads_number
unfolding turned_orbit
Follows-tetrads =
    let after = after_of domino_turns in
    let first = Follows-listed tetrads_moves (place_set_view 8 4 first_edges) (IsListView-place_sets 8 4 first_edges IsPlaceSet-outer)
    (λ r. block_turn outer_places r.edges) (λ c. places_in first_edges c.edges.pieces) IsPlaceSet-first_places
    (λ c r h t.
    places-turned 12 2 first_edges c.edges r.edges h.cube.edges.pieces t.cube.edges.pieces
    ∙ sym (turned_set-outer (places_in first_edges c.edges.pieces) r (IsPlaceSet-first_places c h) t)) in
    let corners = Follows-viewed tetrads_moves tetrads_view (λ r. r.corners)
    (λ c. corner_index c.corners.pieces) (λ c. corner_index c.corners.pieces ≡ corner_index (numbers_from 0 8))
    (λ c h. corner_index-lt c.corners.pieces h.cube.corners.pieces)
    (λ c r h t. corner_index-turned c.corners.pieces r.corners.pieces h.cube.corners.pieces t.cube.corners.pieces)
    (λ c h. (λ e. e, λ e. e)) in
    grind (arith, IsTetradsHome-iff, Follows-product IsDominoCube _ _ after _ _ _ _ refl first corners)
