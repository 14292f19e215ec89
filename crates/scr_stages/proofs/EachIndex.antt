-- Each number of a table is that of some cube of which the table speaks.
use Rattle.std.proofs.Common.{◌≡◌, ℕ, ◌+◌, ◌*◌, ◌/◌, ◌%◌, ◌<◌, not, List, ◌++◌, refl, sym, ap, ◌∙◌, lit<, arith}
use Rattle.std.proofs.lemmas.Nat.{mod_below}
use Rattle.scr_combinatorics.specs.Lists.{numbers_from, pick}
use Rattle.scr_combinatorics.specs.Permutations.{IsPermutation, factorial, inversions, parity, half_at}
use Rattle.scr_combinatorics.specs.PlaceSets.{place_set_number, place_set_at}
use Rattle.scr_combinatorics.specs.Twists.{twists_number, twists_at}
use Rattle.scr_combinatorics.proofs.Halves.{IsHalf, IsHalf-half_at}
use Rattle.scr_combinatorics.proofs.PermutationLaws.{All-permutation}
use Rattle.scr_combinatorics.proofs.Picks.{pick-from_order}
use Rattle.scr_combinatorics.proofs.Twists.{IsTwists-twists_at, twists_number-twists_at}
use Rattle.scr_orbit.specs.Orbits.{zeros}
use Rattle.scr_positions.proofs.StaysBelowLaws.{part_below}
use Rattle.scr_coord.specs.Projections.{marked_places, stands_in}
use Rattle.scr_cube.specs.Cube333.{CubeState, IsCube}
use Rattle.scr_stages.specs.Stages.{middle_edges}
use Rattle.scr_stages.specs.Numbers.{IsDominoCube, first_edges, flips_number, slice_number, tetrads_number, half_cubes}
use Rattle.scr_stages.specs.SearchTables.{flips_table, slice_table, tetrads_table, halves_table}
use Rattle.scr_stages.specs.Tables.{outer_places, flips_line, slice_line, tetrads_line, halves_line}
use Rattle.scr_stages.specs.Tetrads.{arranged, in_block, corner_index, corners_at}
use Rattle.scr_stages.proofs.Blocks.{All-place_set, places_in}
use Rattle.scr_stages.proofs.DominoLaws.{IsPlaceSet-middle, IsPlaceSet-outer, outer_only}
use Rattle.scr_stages.proofs.EdgeBlocks.{IsBehind-middle, IsPermutation-behind, parity-behind, behind-picked}
use Rattle.scr_stages.proofs.FiniteTests.{HasOwn, HasOwn-each, IsPlaceSet-own}
use Rattle.scr_stages.proofs.HalfCubes.{IsZeroSum-still, half_cubes-numbered}
use Rattle.scr_stages.proofs.KeptBlocks.{in_block-picked, kept_from-picked}
use Rattle.scr_stages.proofs.TetradTests.{corners_indexed}

-- Where any two numbers below two counts are those of one state, so is each number of which they are the parts.
pub each_pair : {S : Type 0} (IsValid : S → Type 0) (low high : S → ℕ) (n m : ℕ)
    → ((a b : ℕ) → a < n → b < m → (s : S) × IsValid s × (low s ≡ a) × (high s ≡ b))
    → (i : ℕ) → i < n * m → (s : S) × IsValid s × (low s + n * high s ≡ i)
each_pair IsValid low high n m gives i lt =
    let parts = part_below n m i lt in
    let found = gives (i % n) (i / n) parts.0 parts.1 in grind arith

-- ---- lists that the checker finds for each number

-- the number of the set of places at which a block of n pieces stands
abbrev pub set_of : ℕ → List ℕ → List ℕ → ℕ
set_of n block xs = place_set_number n (places_in block xs)

abbrev others : ℕ → List ℕ → List ℕ
others n set = marked_places (λ place. not (stands_in set place)) (numbers_from 0 n)

-- n pieces of which a block stands at the set of k places that has a number
placed : ℕ → ℕ → List ℕ → ℕ → List ℕ
placed n k block number =
    arranged (place_set_at n k number ++ others n (place_set_at n k number)) (block ++ others n block)

-- the edges of the middle layer at each of the 495 sets
middle_placed : (number : ℕ) → number < 495 → HasOwn 12 (set_of 12 middle_edges) (placed 12 4 middle_edges) number
unfolding place_set_at placed
middle_placed = HasOwn-each 12 495 (set_of 12 middle_edges) (placed 12 4 middle_edges) refl refl

-- the first edges at each of the 70 sets of places above and below
first_placed : (number : ℕ) → number < 70 → HasOwn 8 (set_of 8 first_edges) (placed 8 4 first_edges) number
unfolding place_set_at placed
first_placed = HasOwn-each 8 70 (set_of 8 first_edges) (placed 8 4 first_edges) refl refl

-- ---- cubes

-- the first list of this parity
pub IsHalf-first : (n odd : ℕ) → 0 < factorial n / 2 → IsHalf n (odd % 2) 0 (half_at n (odd % 2) 0)
IsHalf-first n odd some = IsHalf-half_at n (odd % 2) 0 some (mod_below odd 2 (lit< tt))

-- Any flips, twists and set of places of the edges of the middle layer are those of one cube.
pub each_parts : (f t m : ℕ) → f < 2048 → t < 2187 → m < 495
    → (c : CubeState) × IsCube c × (flips_number c ≡ f) × (twists_number 3 c.corners.digits ≡ t)
    × (set_of 12 middle_edges c.edges.pieces ≡ m)
each_parts f t m lf lt lm =
    let edges = placed 12 4 middle_edges m in
    let set = middle_placed m lm in
    let corners = IsHalf-first 8 (inversions edges) (lit< tt) in (
      record {
        corners = record { pieces = half_at 8 (parity edges) 0; digits = twists_at 8 3 t };
        edges = record { pieces = edges; digits = twists_at 12 2 f };
      },
      record {
        corners = record { pieces = corners.permutation; digits = IsTwists-twists_at 8 3 t (lit< tt) (lit< tt) };
        edges = record { pieces = set.permutation; digits = IsTwists-twists_at 12 2 f (lit< tt) (lit< tt) };
        same_parity = corners.same_parity;
      },
      twists_number-twists_at 12 2 f (lit< tt) lf,
      twists_number-twists_at 8 3 t (lit< tt) lt,
      set.same,
    )

pub each-flips : (i : ℕ) → i < flips_line.coordinate.count
    → (c : CubeState) × flips_table.space.IsValid c × (flips_number c ≡ i)
each-flips i lt = let c = each_parts i 0 0 lt (lit< tt) (lit< tt) in (c.0, c.1, c.2)

pub each-slice : (i : ℕ) → i < slice_line.coordinate.count
    → (c : CubeState) × slice_table.space.IsValid c × (slice_number c ≡ i)
each-slice =
    each_pair IsCube (λ c. twists_number 3 c.corners.digits) (λ c. set_of 12 middle_edges c.edges.pieces) 2187 495
    (λ t m lt lm. let c = each_parts 0 t m (lit< tt) lt lm in (c.0, c.1, c.3, c.4))

pub each-halves : (i : ℕ) → i < halves_line.coordinate.count
    → (c : CubeState) × halves_table.space.IsValid c × (half_cubes.number_of c ≡ i)
each-halves i lt =
    let one = half_cubes-numbered.one_to_one in
    (half_cubes.state_at i, one.valid i lt, one.number_again i lt)

-- ---- dominoes

-- the edges above and below, and those of the middle layer, in these orders
abbrev pub layers : List ℕ → List ℕ → List ℕ
layers outer middle = outer ++ pick middle_edges middle

-- a cube that has them, and corners, with no flips and no twists
abbrev pub domino_of : List ℕ → List ℕ → List ℕ → CubeState
domino_of corners outer middle = record {
  corners = record { pieces = corners; digits = zeros 8 };
  edges = record { pieces = layers outer middle; digits = zeros 12 };
}

module _ (outer middle : List ℕ) (o : IsPermutation 8 outer) (m : IsPermutation 4 middle) where
  IsPermutation-layers : IsPermutation 12 (layers outer middle)
  IsPermutation-layers = IsPermutation-behind 8 middle_edges IsBehind-middle outer middle o m

  -- the edges at the places of each layer
  layers-picked : (pick (layers outer middle) outer_places ≡ outer)
      × (pick (layers outer middle) middle_edges ≡ pick middle_edges middle)
  layers-picked = behind-picked 8 middle_edges IsBehind-middle outer middle o m

  pub outer-layers : in_block outer_places (layers outer middle) ≡ outer
  outer-layers =
      in_block-picked 12 8 outer_places (IsPlaceSet-own 12 8 outer_places refl refl) (layers outer middle) outer o
      (layers-picked.0 ∙ sym (pick-from_order 8 outer (All-permutation 8 outer o)))

  pub middle-layers : in_block middle_edges (layers outer middle) ≡ middle
  middle-layers = in_block-picked 12 4 middle_edges IsPlaceSet-middle (layers outer middle) middle m layers-picked.1

  middle-kept : places_in middle_edges (layers outer middle) ≡ middle_edges
  middle-kept = kept_from-picked 12 4 middle_edges IsPlaceSet-middle (layers outer middle) middle IsPermutation-layers m layers-picked.1

  first-layers : places_in first_edges (layers outer middle) ≡ places_in first_edges outer
  first-layers =
      outer_only first_edges (layers outer middle) (All-place_set 0 8 first_edges IsPlaceSet-outer.increasing) IsPermutation-layers middle-kept
      ∙ ap (places_in first_edges) layers-picked.0

  pub IsDominoCube-of : (corners : List ℕ) → IsPermutation 8 corners
      → parity corners ≡ (parity outer + parity middle) % 2 → IsDominoCube (domino_of corners outer middle)
  IsDominoCube-of corners p same = record {
    cube = record {
      corners = IsZeroSum-still 8 3 corners (lit< tt) p;
      edges = IsZeroSum-still 12 2 (layers outer middle) (lit< tt) IsPermutation-layers;
      same_parity = same ∙ sym (parity-behind 8 middle_edges IsBehind-middle outer middle o m);
    };
    domino = record { no_flips = refl; no_twists = refl; middle = middle-kept };
  }

-- the parity that mends a sum
pub mended : (xs : List ℕ) (a b : ℕ) → a ≡ (parity xs + b) % 2 → parity xs ≡ (b + a) % 2
mended xs a b e = omega (arith, e, mod_below (inversions xs) 2 (lit< tt))

pub each-tetrads : (i : ℕ) → i < tetrads_line.coordinate.count
    → (c : CubeState) × tetrads_table.space.IsValid c × (tetrads_number c ≡ i)
each-tetrads =
    each_pair IsDominoCube (λ c. set_of 8 first_edges c.edges.pieces) (λ c. corner_index c.corners.pieces) 70 420
    (λ number index ln li.
    let outer = placed 8 4 first_edges number in
    let set = first_placed number ln in
    let corners = corners_at index in
    let listed = corners_indexed index li in
    let odd = (parity corners + parity outer) % 2 in
    let middle = half_at 4 odd 0 in
    let half = IsHalf-first 4 (parity corners + parity outer) (lit< tt) in (
      domino_of corners outer middle,
      IsDominoCube-of outer middle set.permutation half.permutation corners listed.permutation
          (mended corners (parity middle) (parity outer) half.same_parity),
      ap (place_set_number 8) (first-layers outer middle set.permutation half.permutation) ∙ set.same,
      listed.same,
    ))
