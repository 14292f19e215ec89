-- Blocks of places that hold their own pieces.
use Rattle.std.proofs.Common.{◌≡◌, ℕ, ◌<◌, Bool, true, false, List, map, length, get_or, slice_index, refl, sym, ap, ◌∙◌, subst, arith}
use Rattle.std.specs.Prelude.{All}
use Rattle.std.proofs.lemmas.List.{get_or-map}
use Rattle.std.proofs.lemmas.List.Elements.{All-map}
use Rattle.std.proofs.lemmas.Simd.{map-map}
use Rattle.scr_combinatorics.specs.Lists.{occurrences, numbers_from, pick}
use Rattle.scr_combinatorics.specs.Permutations.{IsPermutation, place_of}
use Rattle.scr_combinatorics.specs.PlaceSets.{IsPlaceSet}
use Rattle.scr_combinatorics.proofs.PermutationLaws.{at-permutation, All-permutation, injective-permutation, IsPermutation-numbers_from, place_of-lt, at-place_of}
use Rattle.scr_combinatorics.proofs.Picks.{length-pick, pick-at, pick-pick}
use Rattle.scr_coord.specs.Projections.{marked_places, stands_in}
use Rattle.scr_coord.proofs.MarkedLaws.{marked-own, marked-same}
use Rattle.scr_coord.proofs.MarkedPieces.{marked-map}
use Rattle.scr_stages.specs.Tetrads.{in_block}
use Rattle.scr_stages.proofs.Blocks.{IsPermutation-order_in, All-stands_in, occurs-stands_in, place_of-own, pick-places, places_in, stands_in-places, All-marked, All-place_set, All-places}
use Rattle.scr_stages.proofs.FiniteTests.{map-back, map-same, pick-all}

-- places whose pieces are marked where places are
pub marked-by_places : (n : ℕ) (marked other : ℕ → Bool) (xs : List ℕ) → length xs ≡ n
    → ((place : ℕ) → place < n → marked (slice_index xs place) ≡ other place)
    → marked_places marked xs ≡ marked_places other (numbers_from 0 n)
marked-by_places n marked other xs size h =
    ap (marked_places marked) (sym (pick-all n xs size))
    ∙ marked-map marked (slice_index xs) 0 (numbers_from 0 n)
    ∙ marked-same (λ place. marked (slice_index xs place)) other 0 (numbers_from 0 n)
    (λ k d lt. h (get_or (numbers_from 0 n) k d) (All-permutation n (numbers_from 0 n) (IsPermutation-numbers_from n) k d lt))

module _ (n k : ℕ) (block : List ℕ) (set : IsPlaceSet n k block) where
  -- The pieces of the block stand in it where a piece is of the block exactly if its place is.
  pub kept_from-places : (xs : List ℕ) → length xs ≡ n
      → ((place : ℕ) → place < n → stands_in block (slice_index xs place) ≡ stands_in block place)
      → places_in block xs ≡ block
  kept_from-places xs size h =
      marked-by_places n (stands_in block) (stands_in block) xs size h ∙ marked-own 0 n n block (omega arith) set.increasing

  pub places_from-kept : (xs : List ℕ) → length xs ≡ n → places_in block xs ≡ block → (place : ℕ) → place < n
      → stands_in block (slice_index xs place) ≡ stands_in block place
  places_from-kept xs size kept place lt = grind (arith, stands_in-places)

  -- the places of the block have its pieces
  pub All-kept : (xs : List ℕ) → places_in block xs ≡ block → All (λ x. stands_in block x ≡ true) (pick xs block)
  All-kept xs kept =
      subst (λ places. All (λ x. stands_in block x ≡ true) (pick xs places)) kept
      (All-map (λ x. stands_in block x ≡ true) (slice_index xs) (places_in block xs) (All-marked (stands_in block) xs))

  -- which are told by a permutation
  pub IsPermutation-in_block : (xs : List ℕ) → IsPermutation n xs → places_in block xs ≡ block
      → IsPermutation k (in_block block xs)
  IsPermutation-in_block xs h kept = grind (arith, IsPermutation-order_in n k block xs set h)

  pub pick-in_block : (xs : List ℕ) → places_in block xs ≡ block → pick block (in_block block xs) ≡ pick xs block
  pick-in_block xs kept = pick-places block (pick xs block) (All-kept xs kept)

  -- Pieces that are picked from the block by a permutation are told by that.
  pub in_block-picked : (xs order : List ℕ) → IsPermutation k order → pick xs block ≡ pick block order
      → in_block block xs ≡ order
  in_block-picked xs order h e =
      ap (map (λ x. place_of x block)) e
      ∙ map-back (λ x. place_of x block) (slice_index block) order
      (λ m d lt. place_of-own 0 n (get_or order m d) block set.increasing (omega (arith, All-permutation k order h m d lt, set.size)))

  -- And then all pieces of the block stand in it.
  module _ (xs order : List ℕ) (h : IsPermutation n xs) (o : IsPermutation k order) (e : pick xs block ≡ pick block order) where
    at_block : (m : ℕ) → m < k → slice_index xs (slice_index block m) ≡ slice_index block (slice_index order m)
    at_block m lt = grind (arith, pick-at)

    stands_by : (place : ℕ) → place < n → (b c : Bool) → stands_in block (slice_index xs place) ≡ b
        → stands_in block place ≡ c → b ≡ c
    stands_by place lt true true p q = refl
    stands_by place lt false false p q = refl
    stands_by place lt false true p q =
        let occurs = occurs-stands_in place block q in
        let m : ℕ = place_of place block in
        let m_lt : m < k = omega (arith, place_of-lt place block occurs, set.size) in
        let there : slice_index block m ≡ place = at-place_of place block occurs in
        let stands : stands_in block (slice_index xs place) ≡ true =
        ap (λ i. stands_in block (slice_index xs i)) (sym there) ∙ ap (stands_in block) (at_block m m_lt)
        ∙ All-stands_in block (slice_index order m) 0 (omega (arith, at-permutation k order o m m_lt, set.size)) in
        sym p ∙ stands
    stands_by place lt true false p q =
        let piece : ℕ = slice_index xs place in
        let occurs = occurs-stands_in piece block p in
        let j : ℕ = place_of piece block in
        let j_lt : j < k = omega (arith, place_of-lt piece block occurs, set.size) in
        let in_order : 0 < occurrences j order = omega (arith, o.once j j_lt) in
        let m : ℕ = place_of j order in
        let m_lt : m < k = omega (arith, place_of-lt j order in_order, o.size) in
        let same : slice_index xs (slice_index block m) ≡ piece =
        at_block m m_lt ∙ ap (slice_index block) (at-place_of j order in_order) ∙ at-place_of piece block occurs in
        let below : slice_index block m < n = All-place_set 0 n block set.increasing m 0 (omega (arith, set.size)) in
        let place_is : slice_index block m ≡ place = injective-permutation n xs h (slice_index block m) place below lt same in
        sym (All-stands_in block m 0 (omega (arith, set.size))) ∙ ap (stands_in block) place_is ∙ q

    pub kept_from-picked : places_in block xs ≡ block
    kept_from-picked = grind (arith, kept_from-places, stands_by)

  -- a turn that carries the pieces at the places of the block among these
  pub in_block-turned : (xs ks : List ℕ) → length xs ≡ n → length ks ≡ n → places_in block ks ≡ block
      → in_block block (pick xs ks) ≡ pick (in_block block xs) (in_block block ks)
  in_block-turned xs ks size ks_size carried =
      let kept = All-kept ks carried in
      let below = All-places n k block ks set ks_size in
      let tell : ℕ → ℕ = λ x. place_of x block in
      let places = in_block block ks in
      let inside : All (λ j. j < length block) places =
      All-map (λ j. j < length block) tell (pick ks block)
      (λ m d lt. place_of-lt (get_or (pick ks block) m d) block (occurs-stands_in (get_or (pick ks block) m d) block (kept m d lt))) in
      let picked = pick xs block in
      ap (map tell) (pick-pick xs ks block below ∙ ap (pick xs) (sym (pick-places block (pick ks block) kept)) ∙ sym (pick-pick xs block places inside))
      ∙ map-map tell (slice_index picked) places
      ∙ map-same (λ j. tell (slice_index picked j)) (slice_index (map tell picked)) places
      (λ m d lt. sym (get_or-map tell picked (get_or places m d) 0 0 (omega (arith, inside m d lt, length-pick xs block))))
