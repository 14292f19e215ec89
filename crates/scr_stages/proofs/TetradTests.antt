-- Finite facts of tetrads, which the checker computes, and the tables of tetrads in the code.
use Rattle.std.proofs.Common.{◌≡◌, ℕ, ◌+◌, ◌-◌, ◌*◌, ◌<◌, true, not, List, ◌++◌, refl, ap, ltb-true, [], ◌∷◌, length, get_or, lit<, arith}
use Rattle.std.specs.Prelude.{nat_lt, slice_index, All, find, unwrap_or, slice_index_or}
use Rattle.scr_combinatorics.specs.Lists.{numbers_from, pick}
use Rattle.scr_combinatorics.specs.Permutations.{IsPermutation, is_permutation, parity, permutation_number, permutation_at, inverse, place_of}
use Rattle.scr_combinatorics.specs.PlaceSets.{place_set_at}
use Rattle.scr_combinatorics.proofs.PermutationLaws.{IsPermutation-from_test}
use Rattle.scr_coord.specs.Projections.{stands_in}
use Rattle.scr_cube.proofs.Holds.{at_each, at_both}
use Rattle.scr_stages.specs.Tetrads.{first_tetrad, second_tetrad, shared_axis, axes_of, relation_number, relation_of, corner_index, corner_across, second_with, other_places, corners_related, corners_at, half_corners_at, half_corners_number}
use Rattle.scr_stages.proofs.FiniteTests.{HasOwn, HasOwn-each, on_all, at_permutation, at_permutations, pick-all}
use Rattle.std.proofs.lemmas.Nat.{mod_below}
use Rattle.std.proofs.lemmas.List.Elements.{All-map}
use Rattle.scr_cube.specs.Stickers.{corner_faces}
use Rattle.scr_stages.specs.declared.tetrads.TheConstants.{AXES, ACROSS, RELATED}

-- ---- both tetrads in any order

-- both tetrads, in the orders s and t
abbrev pub in_orders : List ℕ → List ℕ → List ℕ
in_orders s t = pick first_tetrad s ++ pick second_tetrad t

-- the relation of their axes
abbrev pub relation_in_orders : List ℕ → List ℕ → ℕ
relation_in_orders s t = relation_number (axes_of (pick first_tetrad s)) (axes_of (pick second_tetrad t))

pub relation_in_orders-lt : (s t : List ℕ) → IsPermutation 4 s → IsPermutation 4 t → relation_in_orders s t < 6
unfolding permutation_at axes_of shared_axis relation_number
relation_in_orders-lt s t h k =
    ltb-true (relation_in_orders s t) 6 (at_permutations (λ s t. nat_lt (relation_in_orders s t) 6) (λ s t. true) 4 4 refl s t h k)

-- Of the lists of corners that have the index of solved, the number of that which makes both tetrads in these orders of
-- those with the same relation in order.
abbrev pub label_number : List ℕ → List ℕ → ℕ
label_number s t = slice_index t 0 + 4 * permutation_number s

pub in_orders-relabelled : (s t : List ℕ) → IsPermutation 4 s → IsPermutation 4 t
    → pick (half_corners_at (label_number s t)) (corners_related (relation_in_orders s t)) ≡ in_orders s t
unfolding permutation_at half_corners_at corners_related second_with corner_across axes_of shared_axis relation_number
in_orders-relabelled =
    at_permutations (λ s t. pick (half_corners_at (label_number s t)) (corners_related (relation_in_orders s t))) in_orders 4 4 refl

-- ---- axes

pub IsPermutation-axes : (s : List ℕ) → IsPermutation 4 s
    → IsPermutation 3 (axes_of (pick first_tetrad s)) × IsPermutation 3 (axes_of (pick second_tetrad s))
unfolding permutation_at axes_of shared_axis
IsPermutation-axes s h = (
  IsPermutation-from_test 3 (axes_of (pick first_tetrad s)) (at_permutation (λ s. is_permutation 3 (axes_of (pick first_tetrad s))) (λ s. true) 4 refl s h),
  IsPermutation-from_test 3 (axes_of (pick second_tetrad s)) (at_permutation (λ s. is_permutation 3 (axes_of (pick second_tetrad s))) (λ s. true) 4 refl s h),
)

-- the relation of axes stays where both lists of axes are exchanged alike
pub relation_number-kept : (r a b : List ℕ) → IsPermutation 3 r → IsPermutation 3 a → IsPermutation 3 b
    → relation_number (pick r a) (pick r b) ≡ relation_number a b
unfolding permutation_at relation_number
relation_number-kept r a b h =
    at_permutations (λ a b. relation_number (pick r a) (pick r b)) relation_number 3 3
    (at_permutation (λ r. on_all (λ a. on_all (λ b. relation_number (pick r a) (pick r b)) 3) 3)
    (λ r. on_all (λ a. on_all (relation_number a) 3) 3) 3 refl r h) a b

-- ---- the lists of corners that have the index of solved

-- they have each corner of the first tetrad at its places
pub stands_in-half : (q corner : ℕ) → q < 96 → corner < 8
    → stands_in first_tetrad (slice_index (half_corners_at q) corner) ≡ stands_in first_tetrad corner
unfolding permutation_at half_corners_at second_with corner_across axes_of shared_axis
stands_in-half =
    at_both (λ q corner. stands_in first_tetrad (slice_index (half_corners_at q) corner)) (λ q corner. stands_in first_tetrad corner) 96 8 refl

-- how they exchange axes
unfoldable pub axes_turn : ℕ → List ℕ
axes_turn q = pick (axes_of (pick (half_corners_at q) first_tetrad)) (inverse (axes_of first_tetrad))

pub IsPermutation-axes_turn : (q : ℕ) → q < 96 → IsPermutation 3 (axes_turn q)
unfolding permutation_at axes_turn half_corners_at second_with corner_across axes_of shared_axis
IsPermutation-axes_turn q lt =
    IsPermutation-from_test 3 (axes_turn q) (at_each (λ q. is_permutation 3 (axes_turn q)) (λ q. true) 96 refl q lt)

-- they exchange the axes of both tetrads alike
pub axes_turned : (q : ℕ) → q < 96 → (s : List ℕ) → IsPermutation 4 s
    → (axes_of (pick (half_corners_at q) (pick first_tetrad s)) ≡ pick (axes_turn q) (axes_of (pick first_tetrad s)))
    × (axes_of (pick (half_corners_at q) (pick second_tetrad s)) ≡ pick (axes_turn q) (axes_of (pick second_tetrad s)))
unfolding permutation_at axes_turn half_corners_at second_with corner_across axes_of shared_axis
axes_turned q lt s h =
    let after : ℕ → List ℕ → List ℕ × List ℕ =
    λ q s. (axes_of (pick (half_corners_at q) (pick first_tetrad s)), axes_of (pick (half_corners_at q) (pick second_tetrad s))) in
    let turned : ℕ → List ℕ → List ℕ × List ℕ =
    λ q s. (pick (axes_turn q) (axes_of (pick first_tetrad s)), pick (axes_turn q) (axes_of (pick second_tetrad s))) in
    let both = at_permutation (after q) (turned q) 4 (at_each (λ q. on_all (after q) 4) (λ q. on_all (turned q) 4) 96 refl q lt) s h in
    (ap (λ (x : List ℕ × List ℕ). x.0) both, ap (λ (x : List ℕ × List ℕ). x.1) both)

-- they are lists of corners, each with its number and with the index of solved
pub half_list : (q : ℕ) → q < 96 → HasOwn 8 half_corners_number half_corners_at q
unfolding permutation_at half_corners_at half_corners_number second_with corner_across axes_of shared_axis
half_list = HasOwn-each 8 96 half_corners_number half_corners_at refl refl

pub corner_index-half : (q : ℕ) → q < 96 → corner_index (half_corners_at q) ≡ corner_index (numbers_from 0 8)
unfolding permutation_at half_corners_at corner_index relation_of relation_number second_with corner_across axes_of shared_axis
corner_index-half = at_each (λ q. corner_index (half_corners_at q)) (λ q. corner_index (numbers_from 0 8)) 96 refl

-- half turns make of corners even lists alone
pub parity-half : (q : ℕ) → q < 96 → parity (half_corners_at q) ≡ 0
unfolding permutation_at half_corners_at second_with corner_across axes_of shared_axis
parity-half = at_each (λ q. parity (half_corners_at q)) (λ q. 0) 96 refl

-- ---- each index, and each relation

-- the corners with each of the 420 indexes
pub corners_indexed : (index : ℕ) → index < 420 → HasOwn 8 corner_index corners_at index
unfolding permutation_at place_set_at corners_at other_places corners_related corner_index relation_of relation_number second_with corner_across axes_of shared_axis
corners_indexed = HasOwn-each 8 420 corner_index corners_at refl refl

pub IsPermutation-related : (r : ℕ) → r < 6 → IsPermutation 8 (corners_related r)
unfolding permutation_at corners_related second_with corner_across axes_of shared_axis
IsPermutation-related r lt =
    IsPermutation-from_test 8 (corners_related r) (at_each (λ r. is_permutation 8 (corners_related r)) (λ r. true) 6 refl r lt)

-- the other places of a set of four are the set with the same number from the end
pub other_places-reversed : (number : ℕ) → number < 70
    → place_set_at 8 4 (69 - number) ≡ other_places (place_set_at 8 4 number)
unfolding place_set_at other_places
other_places-reversed = at_each (λ k. place_set_at 8 4 (69 - k)) (λ k. other_places (place_set_at 8 4 k)) 70 refl

-- what stands in the one tetrad doesn't stand in the other
pub stands_in-second : (corner : ℕ) → corner < 8 → stands_in second_tetrad corner ≡ not (stands_in first_tetrad corner)
stands_in-second = at_each (stands_in second_tetrad) (λ corner. not (stands_in first_tetrad corner)) 8 refl

-- ---- solved

pub corners_at-solved : corners_at (corner_index (numbers_from 0 8)) ≡ numbers_from 0 8
unfolding corners_at other_places corners_related corner_index relation_of relation_number second_with corner_across axes_of shared_axis permutation_at place_set_at
corners_at-solved = refl

-- ---- the tables of tetrads in the code, where lists are read one by one

axes-at : (a b : ℕ) → a < 8 → b < 8 → get_or (get_or AXES a []) b 0 ≡ shared_axis a b
unfolding shared_axis
axes-at = at_both (λ a b. get_or (get_or AXES a []) b 0) shared_axis 8 8 refl

-- where the corners are read one by one
pub axes_of-read : (xs : List ℕ) (a b c d : ℕ) → length xs ≡ 4 → All (λ x. x < 8) xs
    → a ≡ get_or xs 0 0 → b ≡ get_or xs 1 0 → c ≡ get_or xs 2 0 → d ≡ get_or xs 3 0
    → get_or (get_or AXES a []) b 0 ∷ get_or (get_or AXES a []) c 0 ∷ get_or (get_or AXES a []) d 0 ∷ [] ≡ axes_of xs
unfolding axes_of
axes_of-read xs a b c d e below ea eb ec ed =
    let axis = λ (k : ℕ) (lt : k < 4). axes-at (get_or xs 0 0) (get_or xs k 0) (below 0 0 (omega (arith, e))) (below k 0 (omega (arith, e))) in
    let first = axis 1 (lit< tt) in
    let second = axis 2 (lit< tt) in
    let third = axis 3 (lit< tt) in
    let whole = ap axes_of (pick-all 4 xs e) in
    cc

-- the second tetrad by its axes

across-at : (k axis : ℕ) → k < 4 → axis < 3
    → get_or (get_or ACROSS k []) axis 0 ≡ corner_across (get_or second_tetrad k 0) axis
unfolding corner_across shared_axis
across-at = at_both (λ k axis. get_or (get_or ACROSS k []) axis 0) (λ k axis. corner_across (get_or second_tetrad k 0) axis) 4 3 refl

pub second_with-read : (k : ℕ) (axes : List ℕ) (a b c : ℕ) → k < 4 → length axes ≡ 3 → All (λ axis. axis < 3) axes
    → a ≡ get_or axes 0 0 → b ≡ get_or axes 1 0 → c ≡ get_or axes 2 0
    → get_or second_tetrad k 0 ∷ get_or (get_or ACROSS k []) a 0 ∷ get_or (get_or ACROSS k []) b 0 ∷ get_or (get_or ACROSS k []) c 0 ∷ []
    ≡ second_with (get_or second_tetrad k 0) axes
unfolding second_with
second_with-read k axes a b c lt e below ea eb ec =
    let across = λ (j : ℕ) (lj : j < 3). across-at k (get_or axes j 0) lt (below j 0 (omega (arith, e))) in
    let first = across 0 (lit< tt) in
    let second = across 1 (lit< tt) in
    let third = across 2 (lit< tt) in
    let whole = ap (second_with (get_or second_tetrad k 0)) (pick-all 3 axes e) in
    cc

pub corners_related-table : (r : ℕ) → r < 6 → first_tetrad ++ get_or RELATED r [] ≡ corners_related r
unfolding corners_related second_with corner_across axes_of shared_axis permutation_at
corners_related-table = at_each (λ r. first_tetrad ++ get_or RELATED r []) corners_related 6 refl

pub relation_number-read : (axes others : List ℕ) (a b c number : ℕ) → length axes ≡ 3
    → a ≡ place_of (get_or axes 0 0) others → b ≡ place_of (get_or axes 1 0) others
    → c ≡ place_of (get_or axes 2 0) others → number ≡ permutation_number (a ∷ b ∷ c ∷ [])
    → number ≡ relation_number axes others
unfolding relation_number
relation_number-read axes others a b c number e ea eb ec is =
    let whole = ap (λ xs. relation_number xs others) (pick-all 3 axes e) in cc

-- axes are below 3
pub All-axes : (xs : List ℕ) → All (λ axis. axis < 3) (axes_of xs)
unfolding axes_of shared_axis
All-axes [] = λ k d lt. absurd (omega arith)
All-axes (x ∷ xs) =
    All-map (λ axis. axis < 3) (shared_axis x) xs (λ k d lt.
    mod_below (unwrap_or (find (stands_in (slice_index_or corner_faces (get_or xs k d) [])) (slice_index_or corner_faces x [])) 0) 3 (lit< tt))
