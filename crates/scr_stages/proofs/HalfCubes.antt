-- Dominoes with the tetrads number of solved are numbered one to one.
use Rattle.std.proofs.Common.{◌≡◌, ℕ, ◌+◌, ◌/◌, ◌%◌, ◌<◌, not, List, [], ◌∷◌, ◌++◌, slice_index, refl, sym, ap, ◌∙◌, subst, lit<, lit≤, arith}
use Rattle.std.specs.Prelude.{◌&&◌}
use Rattle.std.proofs.lemmas.Nat.{mod_below}
use Rattle.scr_combinatorics.specs.Lists.{numbers_from, pick}
use Rattle.scr_combinatorics.specs.Digits.{AreDigits}
use Rattle.scr_combinatorics.specs.Numbering.{IsNumbering}
use Rattle.scr_combinatorics.specs.Permutations.{IsPermutation, parity, inverse, permutation_number, permutation_at, half_at}
use Rattle.scr_combinatorics.specs.PlaceSets.{IsPlaceSet, place_set_number}
use Rattle.scr_combinatorics.proofs.Digits.{by_four_digits}
use Rattle.scr_combinatorics.proofs.Halves.{IsHalf, IsHalf-half_at, half_at-number}
use Rattle.scr_combinatorics.proofs.Numberings.{GivesState, numbering_by_digits}
use Rattle.scr_combinatorics.proofs.PermutationLaws.{at-permutation, IsPermutation-numbers_from}
use Rattle.scr_combinatorics.proofs.PermutationNumbers.{permutations_one_to_one, IsPermutation-at, permutation_number-at, permutation_at-number}
use Rattle.scr_combinatorics.proofs.PlaceSets.{place_set_number-injective}
use Rattle.scr_orbit.specs.Orbits.{zeros, solved_orbit, IsZeroSumOrbit}
use Rattle.scr_orbit.proofs.OrbitLaws.{same_orbit, zero_sum_laws}
use Rattle.scr_orbit.proofs.Parts.{ap_both, ap_three}
use Rattle.scr_cube.specs.Cube333.{CubeState}
use Rattle.scr_cube.proofs.Laws333.{same_cube}
use Rattle.scr_stages.specs.Stages.{middle_edges}
use Rattle.scr_stages.specs.Numbers.{IsDominoCube, first_edges, second_edges, IsHalfCube, half_digits, half_cube_of_digits, half_cubes, edges_of_blocks, AreParts, ArePartNumbers}
use Rattle.scr_stages.specs.Tetrads.{first_tetrad, second_tetrad, corner_index, corners_at, relation_of, in_block, other_places, half_corners_number, half_corners_at}
use Rattle.scr_stages.proofs.Blocks.{places_in, pick-append, pick-arranged}
use Rattle.scr_stages.proofs.FiniteTests.{pick-all}
use Rattle.scr_stages.proofs.KeptBlocks.{kept_from-places, places_from-kept, kept_from-picked, in_block-picked, IsPermutation-in_block, pick-in_block}
use Rattle.scr_stages.proofs.EdgeBlocks.{PicksBlocks, block_places, IsPermutation-block_places, PicksBlocks-edges, IsPermutation-edges, parity-edges}
use Rattle.scr_stages.proofs.TetradTests.{half_list, corner_index-half, corners_at-solved}
use Rattle.scr_stages.proofs.TetradLaws.{IsPlaceSet-first, IsPlaceSet-places, relation-lt, other_places-are, first_order, label_of, label-lt, corners-relabelled}
use Rattle.scr_stages.proofs.DominoLaws.{Blocks-of, middle-at, IsPlaceSet-middle, IsPlaceSet-first_edges, IsPlaceSet-second_edges}
use Rattle.scr_stages.proofs.StageSpaces.{same_parts, IsTetradsHome, IsTetradsHome-iff}

-- ---- the corners

module _ (p : List ℕ) (h : IsPermutation 8 p) (same : corner_index p ≡ corner_index (numbers_from 0 8)) where
  -- each tetrad is at its own places
  first_tetrad-kept : places_in first_tetrad p ≡ first_tetrad
  unfolding corner_index
  first_tetrad-kept =
      let parts = same_parts 6 (relation_of p) (place_set_number 8 (places_in first_tetrad p)) (relation_of (numbers_from 0 8)) (place_set_number 8 first_tetrad)
      (relation-lt p h) (relation-lt (numbers_from 0 8) (IsPermutation-numbers_from 8)) same in
      place_set_number-injective 8 4 (places_in first_tetrad p) first_tetrad (IsPlaceSet-places p h) IsPlaceSet-first parts.1

  second_tetrad-kept : places_in second_tetrad p ≡ second_tetrad
  unfolding other_places
  second_tetrad-kept = sym (other_places-are p h) ∙ ap other_places first_tetrad-kept

  label-number : label_of p h ≡ half_corners_number p
  unfolding half_corners_number
  label-number = grind (arith, first_order, second_tetrad-kept, first_tetrad-kept)

  pub half_corners_number-lt : half_corners_number p < 96
  half_corners_number-lt = subst (λ n. n < 96) label-number (label-lt p h)

  -- the number tells the corners
  pub half_corners_at-number : half_corners_at (half_corners_number p) ≡ p
  half_corners_at-number =
      let g = half_corners_at (half_corners_number p) in
      sym (pick-all 8 g (half_list (half_corners_number p) half_corners_number-lt).permutation.size)
      ∙ ap (pick g) (sym corners_at-solved)
      ∙ ap (λ i. pick g (corners_at i)) (sym same)
      ∙ ap (λ n. pick (half_corners_at n) (corners_at (corner_index p))) (sym label-number)
      ∙ corners-relabelled p h

-- ---- the edges

pub IsTetradsHome-half : (c : CubeState) → IsHalfCube c → IsTetradsHome c
IsTetradsHome-half c h = (IsTetradsHome-iff c h.domino).0 h.index

second_edges-kept : (c : CubeState) → IsDominoCube c → places_in first_edges c.edges.pieces ≡ first_edges
    → places_in second_edges c.edges.pieces ≡ second_edges
second_edges-kept c d home =
    let p = c.edges.pieces in
    let is = d.cube.edges.pieces in
    kept_from-places 12 4 second_edges IsPlaceSet-second_edges p is.size (λ place lt.
    (Blocks-of (slice_index p place) (at-permutation 12 p is place lt)).second
    ∙ ap_both (λ a b. not a && not b) (places_from-kept 12 4 first_edges IsPlaceSet-first_edges p is.size home place lt) (middle-at c d place lt)
    ∙ sym (Blocks-of place lt).second)

-- a block of four that has its own edges in each half cube
pub record IsHalfBlock (block : List ℕ) : Type 0 where
  pub set : IsPlaceSet 12 4 block
  pub kept : (c : CubeState) → IsHalfCube c → places_in block c.edges.pieces ≡ block

pub IsHalfBlock-first : IsHalfBlock first_edges
IsHalfBlock-first = record { set = IsPlaceSet-first_edges; kept = λ c h. (IsTetradsHome-half c h).first }

pub IsHalfBlock-second : IsHalfBlock second_edges
IsHalfBlock-second =
    record { set = IsPlaceSet-second_edges; kept = λ c h. second_edges-kept c h.domino (IsTetradsHome-half c h).first }

pub IsHalfBlock-middle : IsHalfBlock middle_edges
IsHalfBlock-middle = record { set = IsPlaceSet-middle; kept = λ c h. h.domino.domino.middle }

module _ (block : List ℕ) (b : IsHalfBlock block) (c : CubeState) (h : IsHalfCube c) where
  pub block-order : IsPermutation 4 (in_block block c.edges.pieces)
  block-order = IsPermutation-in_block 12 4 block b.set c.edges.pieces h.domino.cube.edges.pieces (b.kept c h)

  block-number : permutation_number (in_block block c.edges.pieces) < 24
  block-number = (permutations_one_to_one 4).below (in_block block c.edges.pieces) block-order

  block-again : permutation_at 4 (permutation_number (in_block block c.edges.pieces)) ≡ in_block block c.edges.pieces
  block-again = permutation_at-number 4 (in_block block c.edges.pieces) block-order

  block-picked : pick block (in_block block c.edges.pieces) ≡ pick c.edges.pieces block
  block-picked = pick-in_block 12 4 block b.set c.edges.pieces (b.kept c h)

-- ---- a half cube, and its digits

abbrev pub half_bases : List ℕ
half_bases = 12 ∷ 24 ∷ 24 ∷ 96 ∷ []

pub part_numbers : (c : CubeState) (middle second first corners : ℕ) → IsHalfCube c
    → AreParts c middle second first corners → ArePartNumbers middle second first corners
part_numbers c middle second first corners h is = record {
  middle_below = omega (arith, is.middle_is, block-number middle_edges IsHalfBlock-middle c h);
  second_below = omega (arith, is.second_is, block-number second_edges IsHalfBlock-second c h);
  first_below = omega (arith, is.first_is, block-number first_edges IsHalfBlock-first c h);
  corners_below = omega (arith, is.corners_is, half_corners_number-lt c.corners.pieces h.domino.cube.corners.pieces (IsTetradsHome-half c h).corners);
}

module _ (c : CubeState) (h : IsHalfCube c) where
  abbrev first : List ℕ
  first = in_block first_edges c.edges.pieces

  abbrev second : List ℕ
  second = in_block second_edges c.edges.pieces

  abbrev third : List ℕ
  third = in_block middle_edges c.edges.pieces

  edges-again : edges_of_blocks first second third ≡ c.edges.pieces
  unfolding edges_of_blocks
  edges-again =
      let p = c.edges.pieces in
      ap (λ xs. pick xs (inverse block_places))
      (ap_three (λ xs ys zs. xs ++ ys ++ zs) (block-picked first_edges IsHalfBlock-first c h) (block-picked second_edges IsHalfBlock-second c h)
      (block-picked middle_edges IsHalfBlock-middle c h)
      ∙ sym (pick-append p (first_edges ++ second_edges) middle_edges ∙ ap (λ xs. xs ++ pick p middle_edges) (pick-append p first_edges second_edges)))
      ∙ pick-arranged 12 p block_places h.domino.cube.edges.pieces.size IsPermutation-block_places

  -- the parity of the middle edges is what the others leave
  parity-middle : (parity c.corners.pieces + parity first + parity second) % 2 ≡ parity third
  parity-middle =
      grind (
        arith,
        parity-edges,
        block-order first_edges IsHalfBlock-first c h,
        block-order second_edges IsHalfBlock-second c h,
        block-order middle_edges IsHalfBlock-middle c h,
        edges-again,
      )

  AreDigits-half : AreDigits half_bases (half_digits c)
  unfolding half_digits
  AreDigits-half =
      let below = part_numbers c _ _ _ _ h (record { middle_is = refl; second_is = refl; first_is = refl; corners_is = refl }) in
      (omega (arith, below.middle_below), (below.second_below, (below.first_below, (below.corners_below, tt))))

  half_cube-again : half_cube_of_digits (half_digits c) ≡ c
  unfolding half_digits half_cube_of_digits
  half_cube-again =
      rw (
        half_corners_at-number c.corners.pieces h.domino.cube.corners.pieces (IsTetradsHome-half c h).corners,
        block-again first_edges IsHalfBlock-first c h,
        block-again second_edges IsHalfBlock-second c h,
        parity-middle,
        half_at-number 4 third (lit< tt) (block-order middle_edges IsHalfBlock-middle c h),
        edges-again,
      )
      (same_cube _ c (same_orbit _ c.corners refl (sym h.domino.domino.no_twists)) (same_orbit _ c.edges refl (sym h.domino.domino.no_flips)))

-- ---- four digits give a half cube

pub IsZeroSum-still : (n m : ℕ) (xs : List ℕ) → 0 < m → IsPermutation n xs
    → IsZeroSumOrbit n m (record { pieces = xs; digits = zeros n })
unfolding solved_orbit
IsZeroSum-still n m xs pos h = record { pieces = h; digits = (zero_sum_laws n m pos).solved.digits }

-- a block has its own edges, in this order
pub record HasBlock (edges block order : List ℕ) : Type 0 where
  pub kept : places_in block edges ≡ block
  pub inside : in_block block edges ≡ order

HasBlock-picked : (edges block order : List ℕ) → IsPlaceSet 12 4 block → IsPermutation 12 edges → IsPermutation 4 order
    → pick edges block ≡ pick block order → HasBlock edges block order
HasBlock-picked edges block order set h o e =
    record { kept = kept_from-picked 12 4 block set edges order h o e; inside = in_block-picked 12 4 block set edges order o e }

abbrev pub Gives : List ℕ → Type 0
Gives = GivesState half_bases half_cube_of_digits half_digits IsHalfCube

module _ (half s f q : ℕ) (lh : half < 12) (ls : s < 24) (lf : f < 24) (lq : q < 96) where
  abbrev corners : List ℕ
  corners = half_corners_at q

  abbrev pub odd_left : ℕ
  odd_left = (parity corners + parity (permutation_at 4 f) + parity (permutation_at 4 s)) % 2

  abbrev pub edges : List ℕ
  edges = edges_of_blocks (permutation_at 4 f) (permutation_at 4 s) (half_at 4 odd_left half)

  left : IsHalf 4 odd_left half (half_at 4 odd_left half)
  left = IsHalf-half_at 4 odd_left half lh (mod_below (parity corners + parity (permutation_at 4 f) + parity (permutation_at 4 s)) 2 (lit< tt))

  are_edges : IsPermutation 12 edges
  are_edges = IsPermutation-edges _ _ _ (IsPermutation-at 4 f lf) (IsPermutation-at 4 s ls) left.permutation

  picks : PicksBlocks edges (permutation_at 4 f) (permutation_at 4 s) (half_at 4 odd_left half)
  picks = PicksBlocks-edges _ _ _ (IsPermutation-at 4 f lf) (IsPermutation-at 4 s ls) left.permutation

  pub third-in : HasBlock edges middle_edges (half_at 4 odd_left half)
  third-in =
      HasBlock-picked edges middle_edges (half_at 4 odd_left half) IsPlaceSet-middle are_edges left.permutation picks.third

  pub half_cube_of_four : Gives (half ∷ s ∷ f ∷ q ∷ [])
  unfolding half_cube_of_digits half_digits
  half_cube_of_four =
      let list = half_list q lq in
      let first-in = HasBlock-picked edges first_edges (permutation_at 4 f) IsPlaceSet-first_edges are_edges (IsPermutation-at 4 f lf) picks.first in
      let second-in = HasBlock-picked edges second_edges (permutation_at 4 s) IsPlaceSet-second_edges are_edges (IsPermutation-at 4 s ls) picks.second in
      let c : CubeState = record { corners = record { pieces = corners; digits = zeros 8 }; edges = record { pieces = edges; digits = zeros 12 } } in
      let d : IsDominoCube c =
      grind (arith, IsZeroSum-still, are_edges, parity-edges, IsPermutation-at, left, mod_below, third-in) in
      record {
        valid = record { domino = d; index = (IsTetradsHome-iff c d).1 (record { first = first-in.kept; corners = corner_index-half q lq }) };
        again = ap_both (λ x xs. x ∷ xs) (ap (λ xs. permutation_number xs / 2) third-in.inside ∙ left.number)
            (ap_three (λ x y z. x ∷ y ∷ z ∷ []) (ap permutation_number second-in.inside ∙ permutation_number-at 4 s ls)
            (ap permutation_number first-in.inside ∙ permutation_number-at 4 f lf) list.same);
      }

half_cube_gives : (ds : List ℕ) → AreDigits half_bases ds → Gives ds
half_cube_gives = by_four_digits Gives 12 24 24 96 half_cube_of_four

-- These cubes are numbered by the numbers below the count, one for each.
pub half_cubes-numbered : IsNumbering half_cubes
half_cubes-numbered =
    numbering_by_digits half_bases half_cube_of_digits half_digits IsHalfCube (lit≤ tt) (lit≤ tt) half_cube_gives
    (λ c h. record { below = AreDigits-half c h; again = half_cube-again c h })
