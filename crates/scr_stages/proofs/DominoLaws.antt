-- Dominoes, and the turns that keep them.
use Rattle.std.proofs.Common.{◌≡◌, ℕ, suc, ◌+◌, ◌<◌, ◌≤◌, Bool, true, false, not, cond, List, [], ◌∷◌, ◌++◌, length, slice_index, refl, sym, ap, ◌∙◌, lit<, arith}
use Rattle.std.specs.Prelude.{All, ◌&&◌, nat_lt}
use Rattle.std.proofs.lemmas.List.{append-nil}
use Rattle.std.proofs.lemmas.List.Elements.{All-head, All-tail, All-weaker}
use Rattle.scr_combinatorics.specs.Lists.{pick}
use Rattle.scr_combinatorics.specs.Permutations.{IsPermutation}
use Rattle.scr_combinatorics.specs.PlaceSets.{IsPlaceSet}
use Rattle.scr_combinatorics.proofs.PermutationLaws.{All-permutation, at-permutation}
use Rattle.scr_combinatorics.proofs.Picks.{pick-from_order}
use Rattle.scr_orbit.specs.Orbits.{Orbit, turned_orbit, zeros}
use Rattle.scr_orbit.proofs.DigitLaws.{added_digits-to_zeros, All-zeros, length-zeros}
use Rattle.scr_orbit.proofs.OrbitLaws.{places_in as places_below}
use Rattle.scr_coord.specs.Projections.{marked_from, stands_in, turned_set}
use Rattle.scr_coord.proofs.MarkedLaws.{IsPlaceSetFrom-marked}
use Rattle.scr_coord.proofs.MarkedPieces.{marked-turned, IsPlaceSet-marked}
use Rattle.scr_coord.proofs.MarkedSteps.{marked-append}
use Rattle.scr_cube.specs.Cube333.{CubeState, cube_monoid}
use Rattle.scr_cube.proofs.Holds.{at_each}
use Rattle.scr_cube.proofs.Laws333.{cube_laws}
use Rattle.scr_stages.specs.Stages.{middle_edges}
use Rattle.scr_stages.specs.Numbers.{first_edges, second_edges, IsUnflippedCube, IsDominoCube}
use Rattle.scr_stages.specs.Tables.{outer_places, block_turn}
use Rattle.scr_stages.specs.Tetrads.{in_block}
use Rattle.scr_stages.proofs.Blocks.{at-stands_in, All-place_set, places_in, pick-append}
use Rattle.scr_stages.proofs.EdgeBlocks.{IsBehind-middle}
use Rattle.scr_stages.proofs.KeptBlocks.{kept_from-places, places_from-kept, All-kept, IsPermutation-in_block, pick-in_block}
use Rattle.scr_stages.proofs.FiniteTests.{IsPlaceSet-own, pick-all}

-- ---- digits that stay 0

zeros-turned : (n m : ℕ) (o r : Orbit) → 0 < m → IsPermutation n r.pieces → o.digits ≡ zeros n
    → r.digits ≡ zeros n → (turned_orbit m o r).digits ≡ zeros n
unfolding turned_orbit
zeros-turned n m o r pos h e f = grind (arith, added_digits-to_zeros, All-zeros, length-zeros)

pub IsUnflippedCube-turned : (c r : CubeState) → IsUnflippedCube c → IsUnflippedCube r
    → IsUnflippedCube (cube_monoid.turned c r)
IsUnflippedCube-turned c r h t = record {
  cube = cube_laws.kept c r h.cube t.cube;
  no_flips = zeros-turned 12 2 c.edges r.edges (lit< tt) t.cube.edges.pieces h.no_flips t.no_flips;
}

-- ---- where marked pieces stand

pub places-turned : (n m : ℕ) (block : List ℕ) (o r : Orbit) → IsPermutation n o.pieces
    → IsPermutation n r.pieces → places_in block (turned_orbit m o r).pieces ≡ turned_set (places_in block o.pieces) r
unfolding turned_orbit
places-turned n m block o r h k = marked-turned (stands_in block) o.pieces r (places_below n r.pieces o.pieces k h.size)

pub IsDominoCube-turned : (c r : CubeState) → IsDominoCube c → IsDominoCube r → IsDominoCube (cube_monoid.turned c r)
IsDominoCube-turned c r h t = record {
  cube = cube_laws.kept c r h.cube t.cube;
  domino = record {
    no_flips = zeros-turned 12 2 c.edges r.edges (lit< tt) t.cube.edges.pieces h.domino.no_flips t.domino.no_flips;
    no_twists = zeros-turned 8 3 c.corners r.corners (lit< tt) t.cube.corners.pieces h.domino.no_twists t.domino.no_twists;
    middle = places-turned 12 2 middle_edges c.edges r.edges h.cube.edges.pieces t.cube.edges.pieces
        ∙ ap (λ places. turned_set places r.edges) h.domino.middle ∙ t.domino.middle;
  };
}

-- ---- sets of places

pub IsPlaceSet-middle : IsPlaceSet 12 4 middle_edges
IsPlaceSet-middle = IsPlaceSet-own 12 4 middle_edges refl refl

pub IsPlaceSet-first_edges : IsPlaceSet 12 4 first_edges
IsPlaceSet-first_edges = IsPlaceSet-own 12 4 first_edges refl refl

pub IsPlaceSet-second_edges : IsPlaceSet 12 4 second_edges
IsPlaceSet-second_edges = IsPlaceSet-own 12 4 second_edges refl refl

pub IsPlaceSet-outer : IsPlaceSet 8 4 first_edges
IsPlaceSet-outer = IsPlaceSet-own 8 4 first_edges refl refl

pub IsPlaceSet-outer_places : IsPlaceSet 12 8 outer_places
IsPlaceSet-outer_places = IsPlaceSet-own 12 8 outer_places refl refl

-- ---- the edges above and below

-- finite facts of the blocks
pub record Blocks (x : ℕ) : Type 0 where
  pub middle : nat_lt x 8 ≡ not (stands_in middle_edges x)
  pub outer : stands_in outer_places x ≡ nat_lt x 8
  pub second : stands_in second_edges x ≡ (not (stands_in first_edges x) && not (stands_in middle_edges x))

pub Blocks-of : (x : ℕ) → x < 12 → Blocks x
Blocks-of x lt = record {
  middle = at_each (λ x. nat_lt x 8) (λ x. not (stands_in middle_edges x)) 12 refl x lt;
  outer = at_each (stands_in outer_places) (λ x. nat_lt x 8) 12 refl x lt;
  second = at_each (stands_in second_edges) (λ x. not (stands_in first_edges x) && not (stands_in middle_edges x)) 12 refl x lt;
}

-- of two lists, one with numbers below n and the other with the rest, no number stands in both
in_one : (n : ℕ) (low high : List ℕ) (x : ℕ) → All (λ y. y < n) low → All (λ y. n ≤ y) high → stands_in high x ≡ true
    → stands_in low x ≡ false
in_one n low high x below above e = by (stands_in low x) refl
  where
    by : (b : Bool) → stands_in low x ≡ b → b ≡ false
    by true f = absurd (omega (arith, at-stands_in (λ y. y < n) low x below f, at-stands_in (λ y. n ≤ y) high x above e))
    by false f = refl

marked-none : (marked : ℕ → Bool) (low : ℕ) (xs : List ℕ) → All (λ x. marked x ≡ false) xs
    → marked_from marked low xs ≡ []
marked-none marked low [] h = refl
marked-none marked low (x ∷ xs) h =
    ap (λ b. cond b (low ∷ marked_from marked (suc low) xs) (marked_from marked (suc low) xs)) (All-head (λ y. marked y ≡ false) x xs h)
    ∙ marked-none marked (suc low) xs (All-tail (λ y. marked y ≡ false) x xs h)

-- Where the middle layer has its own edges, edges of numbers below 8 stand above and below.
pub outer_only : (set edges : List ℕ) → All (λ x. x < 8) set → IsPermutation 12 edges
    → places_in middle_edges edges ≡ middle_edges → places_in set edges ≡ places_in set (pick edges outer_places)
outer_only set edges low is kept =
    let outer = pick edges outer_places in
    let middle = pick edges middle_edges in
    ap (places_in set) (sym (pick-all 12 edges is.size) ∙ pick-append edges outer_places middle_edges)
    ∙ marked-append (stands_in set) 0 outer middle
    ∙ ap (λ ys. places_in set outer ++ ys)
    (marked-none (stands_in set) (0 + length outer) middle
    (All-weaker (λ x. stands_in middle_edges x ≡ true) (λ x. stands_in set x ≡ false)
    (λ x e. in_one 8 set middle_edges x low IsBehind-middle.above e) middle (All-kept 12 4 middle_edges IsPlaceSet-middle edges kept)))
    ∙ append-nil (places_in set outer)

module _ (c : CubeState) (d : IsDominoCube c) where
  pub middle-at : (place : ℕ) → place < 12
      → stands_in middle_edges (slice_index c.edges.pieces place) ≡ stands_in middle_edges place
  middle-at = places_from-kept 12 4 middle_edges IsPlaceSet-middle c.edges.pieces d.cube.edges.pieces.size d.domino.middle

  -- the edges above and below are those of a solved cube
  pub outer-kept : places_in outer_places c.edges.pieces ≡ outer_places
  outer-kept =
      let p = c.edges.pieces in
      let is = d.cube.edges.pieces in
      kept_from-places 12 8 outer_places IsPlaceSet-outer_places p is.size (λ place lt.
      let piece = Blocks-of (slice_index p place) (at-permutation 12 p is place lt) in
      let own = Blocks-of place lt in
      piece.outer ∙ piece.middle ∙ ap not (middle-at place lt) ∙ sym own.middle ∙ sym own.outer)

  pub IsPermutation-outer : IsPermutation 8 (in_block outer_places c.edges.pieces)
  IsPermutation-outer = IsPermutation-in_block 12 8 outer_places IsPlaceSet-outer_places c.edges.pieces d.cube.edges.pieces outer-kept

  pub IsPermutation-middle : IsPermutation 4 (in_block middle_edges c.edges.pieces)
  IsPermutation-middle = IsPermutation-in_block 12 4 middle_edges IsPlaceSet-middle c.edges.pieces d.cube.edges.pieces d.domino.middle

  -- the first edges stand above and below
  pub IsPlaceSet-first_places : IsPlaceSet 8 4 (places_in first_edges c.edges.pieces)
  IsPlaceSet-first_places =
      grind (
        arith,
        outer_only first_edges c.edges.pieces (All-place_set 0 8 first_edges IsPlaceSet-outer.increasing) d.cube.edges.pieces d.domino.middle,
        IsPlaceSet-marked 12 4 (stands_in first_edges) c.edges.pieces d.cube.edges.pieces refl,
        IsPlaceSetFrom-marked (stands_in first_edges) 0 8 (pick c.edges.pieces outer_places) refl,
      )

-- ---- turns of the edges above and below

-- a set of places above and below goes to the same set by the turn of these places
pub turned_set-outer : (set : List ℕ) (r : CubeState) → IsPlaceSet 8 4 set → IsDominoCube r
    → turned_set set (block_turn outer_places r.edges) ≡ turned_set set r.edges
turned_set-outer set r h t =
    let ks = r.edges.pieces in
    let outer = in_block outer_places ks in
    ap (places_in set) (sym (pick-from_order 8 outer (All-permutation 8 outer (IsPermutation-outer r t))) ∙ pick-in_block 12 8 outer_places IsPlaceSet-outer_places ks (outer-kept r t))
    ∙ sym (outer_only set ks (All-place_set 0 8 set h.increasing) t.cube.edges.pieces t.domino.middle)
