-- The index of a list of corners. Relabelling the corners by a list with the index of solved keeps it, and each list is
-- made so of the one that is kept for its index. So the index after a turn depends on the index alone, and a list with
-- the index of solved is told by its number.
use Rattle.std.proofs.Common.{◌≡◌, ℕ, ◌+◌, ◌/◌, ◌<◌, not, true, List, ◌++◌, get_or, slice_index, refl, sym, ap, ◌∙◌, subst, lit<, arith}
use Rattle.scr_combinatorics.specs.Lists.{pick}
use Rattle.scr_combinatorics.specs.Permutations.{IsPermutation, is_permutation, inverse}
use Rattle.scr_combinatorics.specs.PlaceSets.{IsPlaceSet, place_set_number, place_set_at}
use Rattle.scr_combinatorics.proofs.PermutationLaws.{All-permutation, at-permutation, IsPermutation-from_test, IsPermutation-pick, IsPermutation-inverse}
use Rattle.scr_combinatorics.proofs.PermutationNumbers.{permutations_one_to_one}
use Rattle.scr_combinatorics.proofs.PlaceSets.{place_set_number-lt, place_set_at-number, place_sets_one_to_one}
use Rattle.scr_combinatorics.proofs.Picks.{pick-pick}
use Rattle.scr_coord.specs.Projections.{stands_in}
use Rattle.scr_coord.proofs.MarkedLaws.{marked-same}
use Rattle.scr_coord.proofs.MarkedPieces.{marked-map, IsPlaceSet-marked}
use Rattle.scr_orbit.proofs.OrbitLaws.{places_in as places_below}
use Rattle.scr_orbit.proofs.Parts.{ap_both}
use Rattle.scr_stages.specs.Tetrads.{first_tetrad, second_tetrad, axes_of, relation_number, relation_of, corner_index, arranged, other_places, corners_related, corners_at, half_corners_at}
use Rattle.scr_stages.proofs.FiniteTests.{at_numbered, IsPlaceSet-own}
use Rattle.scr_stages.proofs.Blocks.{places_in, order_in, pick-order_in, IsPermutation-order_in, stands_in-places, All-marked-below, pick-arranged, pick-append}
use Rattle.scr_stages.proofs.KeptBlocks.{marked-by_places}
use Rattle.scr_stages.proofs.TetradTests.{relation_in_orders, relation_in_orders-lt, label_number, in_orders-relabelled, IsPermutation-axes, relation_number-kept, half_list, corners_indexed, stands_in-half, axes_turn, IsPermutation-axes_turn, axes_turned, IsPermutation-related, stands_in-second}

pub IsPlaceSet-first : IsPlaceSet 8 4 first_tetrad
IsPlaceSet-first = IsPlaceSet-own 8 4 first_tetrad refl refl

pub IsPlaceSet-second : IsPlaceSet 8 4 second_tetrad
IsPlaceSet-second = IsPlaceSet-own 8 4 second_tetrad refl refl

-- ---- places of a tetrad and the others

pub IsPermutation-places : (set : List ℕ) → IsPlaceSet 8 4 set → IsPermutation 8 (set ++ other_places set)
unfolding other_places place_set_at
IsPermutation-places set h =
    IsPermutation-from_test 8 (set ++ other_places set)
    (at_numbered (λ set. is_permutation 8 (set ++ other_places set)) (λ set. true) (place_sets_one_to_one 8 4) refl set h)

module _ (p : List ℕ) (h : IsPermutation 8 p) where
  pub IsPlaceSet-places : IsPlaceSet 8 4 (places_in first_tetrad p)
  IsPlaceSet-places = IsPlaceSet-marked 8 4 (stands_in first_tetrad) p h refl

  -- the second tetrad stands at the others
  pub other_places-are : other_places (places_in first_tetrad p) ≡ places_in second_tetrad p
  unfolding other_places
  other_places-are =
      sym (marked-by_places 8 (stands_in second_tetrad) (λ place. not (stands_in (places_in first_tetrad p) place)) p h.size (λ place lt.
      stands_in-second (slice_index p place) (at-permutation 8 p h place lt)
      ∙ ap not (sym (stands_in-places (stands_in first_tetrad) p place (omega (arith, h.size))))))

  -- the places of both, one behind the other
  abbrev both_places : List ℕ
  both_places = places_in first_tetrad p ++ places_in second_tetrad p

  IsPermutation-both_places : IsPermutation 8 both_places
  IsPermutation-both_places =
      let first = places_in first_tetrad p in
      subst (λ xs. IsPermutation 8 (first ++ xs)) other_places-are (IsPermutation-places first IsPlaceSet-places)

  -- the orders in which both tetrads stand
  abbrev pub first_order : List ℕ
  first_order = order_in first_tetrad p

  abbrev pub second_order : List ℕ
  second_order = order_in second_tetrad p

  pub IsPermutation-first : IsPermutation 4 first_order
  IsPermutation-first = IsPermutation-order_in 8 4 first_tetrad p IsPlaceSet-first h

  pub IsPermutation-second : IsPermutation 4 second_order
  IsPermutation-second = IsPermutation-order_in 8 4 second_tetrad p IsPlaceSet-second h

  relation-orders : relation_of p ≡ relation_in_orders first_order second_order
  unfolding relation_of
  relation-orders = grind (arith, places_in, pick-order_in)

  axes_first : IsPermutation 3 (axes_of (pick p (places_in first_tetrad p)))
  axes_first = subst (λ xs. IsPermutation 3 (axes_of xs)) (pick-order_in first_tetrad p) (IsPermutation-axes first_order IsPermutation-first).0

  axes_second : IsPermutation 3 (axes_of (pick p (places_in second_tetrad p)))
  axes_second = subst (λ xs. IsPermutation 3 (axes_of xs)) (pick-order_in second_tetrad p) (IsPermutation-axes second_order IsPermutation-second).1

  pub relation-lt : relation_of p < 6
  relation-lt = subst (λ k. k < 6) (sym relation-orders) (relation_in_orders-lt first_order second_order IsPermutation-first IsPermutation-second)

  pub corner_index-lt : corner_index p < 420
  unfolding corner_index
  corner_index-lt = omega (arith, relation-lt, place_set_number-lt 8 4 (places_in first_tetrad p) IsPlaceSet-places)

  -- ---- the list that is kept for the index

  pub corners_at-index : corners_at (corner_index p)
      ≡ arranged both_places (corners_related (relation_of p))
  unfolding corner_index corners_at
  corners_at-index =
      let places = places_in first_tetrad p in
      let relation = relation_of p in
      let number = place_set_number 8 places in
      let set : place_set_at 8 4 (corner_index p / 6) ≡ places =
      ap (place_set_at 8 4) (omega (arith, relation-lt)) ∙ place_set_at-number 8 4 places IsPlaceSet-places in
      grind (arith, relation, relation-lt, set, places, other_places-are, places_in)

  abbrev pub label_of : ℕ
  label_of = label_number first_order second_order

  pub label-lt : label_of < 96
  label-lt =
      omega (
        arith,
        at-permutation 4 second_order IsPermutation-second 0 (lit< tt),
        (permutations_one_to_one 4).below first_order IsPermutation-first,
      )

  -- A list of corners is that which is kept for its index, relabelled by a list with the index of solved.
  pub corners-relabelled : pick (half_corners_at label_of) (corners_at (corner_index p)) ≡ p
  corners-relabelled =
      let g = half_corners_at label_of in
      let first = places_in first_tetrad p in
      let second = places_in second_tetrad p in
      let related = corners_related (relation_of p) in
      ap (pick g) corners_at-index
      ∙ sym (pick-pick g related (inverse both_places) (places_below 8 (inverse both_places) related (IsPermutation-inverse 8 both_places IsPermutation-both_places) (IsPermutation-related (relation_of p) relation-lt).size))
      ∙ ap (λ xs. pick xs (inverse both_places)) (ap (λ r. pick g (corners_related r)) relation-orders
      ∙ in_orders-relabelled first_order second_order IsPermutation-first IsPermutation-second
      ∙ ap (λ xs. xs ++ pick second_tetrad second_order) (pick-order_in first_tetrad p)
      ∙ ap (λ xs. pick p first ++ xs) (pick-order_in second_tetrad p)
      ∙ sym (pick-append p first second))
      ∙ pick-arranged 8 p both_places h.size IsPermutation-both_places

  -- ---- relabelling

  module _ (q : ℕ) (lq : q < 96) where
    abbrev g : List ℕ
    g = half_corners_at q

    -- a tetrad stands at the same places
    places-kept : (tetrad : List ℕ) → ((x : ℕ) → x < 8 → stands_in tetrad (slice_index g x) ≡ stands_in tetrad x)
        → places_in tetrad (pick g p) ≡ places_in tetrad p
    places-kept tetrad each =
        marked-map (stands_in tetrad) (slice_index g) 0 p
        ∙ marked-same (λ x. stands_in tetrad (slice_index g x)) (stands_in tetrad) 0 p (λ k d lt. each (get_or p k d) (All-permutation 8 p h k d lt))

    places-relabelled : places_in first_tetrad (pick g p) ≡ places_in first_tetrad p
    places-relabelled = places-kept first_tetrad (λ x. stands_in-half q x lq)

    second-relabelled : places_in second_tetrad (pick g p) ≡ places_in second_tetrad p
    second-relabelled =
        places-kept second_tetrad (λ x lt.
        stands_in-second (slice_index g x) (at-permutation 8 g (half_list q lq).permutation x lt) ∙ ap not (stands_in-half q x lq lt) ∙ sym (stands_in-second x lt))

    -- the axes of a tetrad are exchanged
    axes-relabelled : (tetrad : List ℕ) → places_in tetrad (pick g p) ≡ places_in tetrad p
        → axes_of (pick g (pick tetrad (order_in tetrad p))) ≡ pick (axes_turn q) (axes_of (pick tetrad (order_in tetrad p)))
        → axes_of (pick (pick g p) (places_in tetrad (pick g p))) ≡ pick (axes_turn q) (axes_of (pick p (places_in tetrad p)))
    axes-relabelled tetrad same turned =
        grind (arith, pick-pick, places_in, All-marked-below, pick-order_in, axes_turn)

    -- those of both alike
    relation-relabelled : relation_of (pick g p) ≡ relation_of p
    unfolding relation_of
    relation-relabelled =
        ap_both relation_number (axes-relabelled first_tetrad places-relabelled (axes_turned q lq first_order IsPermutation-first).0)
        (axes-relabelled second_tetrad second-relabelled (axes_turned q lq second_order IsPermutation-second).1)
        ∙ relation_number-kept (axes_turn q) (axes_of (pick p (places_in first_tetrad p))) (axes_of (pick p (places_in second_tetrad p)))
        (IsPermutation-axes_turn q lq) axes_first axes_second

    pub corner_index-relabelled : corner_index (pick g p) ≡ corner_index p
    unfolding corner_index
    corner_index-relabelled = grind (arith, ap_both, relation-relabelled, places-relabelled)

-- The index after a turn is that which the turn makes of the list that is kept for the index.
pub corner_index-turned : (p ks : List ℕ) → IsPermutation 8 p → IsPermutation 8 ks
    → corner_index (pick (corners_at (corner_index p)) ks) ≡ corner_index (pick p ks)
corner_index-turned p ks h k =
    let kept = corners_at (corner_index p) in
    let valid = (corners_indexed (corner_index p) (corner_index-lt p h)).permutation in
    let g = half_corners_at (label_of p h) in
    sym (corner_index-relabelled (pick kept ks) (IsPermutation-pick 8 kept ks valid k) (label_of p h) (label-lt p h))
    ∙ ap corner_index (sym (pick-pick g kept ks (places_below 8 ks kept k valid.size)) ∙ ap (λ xs. pick xs ks) (corners-relabelled p h))
