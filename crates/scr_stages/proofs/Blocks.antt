-- The pieces of a block, as a tetrad of corners, wherever they stand.
use Rattle.std.proofs.Common.{◌≡◌, ℕ, zero, suc, ◌<◌, Bool, true, cond, eqb, List, [], ◌∷◌, ◌++◌, map, length, get_or, slice_index, inl, inr, refl, sym, ap, ◌∙◌, subst, arith, zero-add}
use Rattle.std.specs.Prelude.{All, ◌||◌}
use Rattle.std.proofs.lemmas.Bool.{cases_eq, eq-eqb, ne_eqb, or_right, false≢true}
use Rattle.std.proofs.lemmas.List.{length-map, get_or-map, map-append}
use Rattle.std.proofs.lemmas.List.Elements.{All-nil, All-cons, All-map, All-weaker}
use Rattle.scr_combinatorics.specs.Lists.{occurrences, pick}
use Rattle.scr_combinatorics.specs.Permutations.{IsPermutation, place_of, inverse}
use Rattle.scr_combinatorics.specs.PlaceSets.{IsPlaceSetFrom, IsPlaceSet}
use Rattle.scr_combinatorics.proofs.Counts.{occurrences-at, one_if-other, occurrences-here}
use Rattle.scr_combinatorics.proofs.PermutationLaws.{All-permutation, IsPermutation-from_each, IsPermutation-inverse, pick-inverse, place_of-lt, at-place_of}
use Rattle.scr_combinatorics.proofs.Picks.{length-pick, pick-at, pick-pick}
use Rattle.scr_coord.specs.Projections.{marked_places, stands_in}
use Rattle.scr_coord.proofs.MarkedLaws.{marked-own, stands_in-later, IsPlaceSetFrom-marked}
use Rattle.scr_coord.proofs.MarkedPieces.{stands_in-marked, IsPlaceSet-marked}
use Rattle.scr_stages.proofs.FiniteTests.{map-back, pick-all}

-- ---- what stands in a list

-- each element does
pub All-stands_in : (xs : List ℕ) → All (λ x. stands_in xs x ≡ true) xs
All-stands_in [] = All-nil (λ x. stands_in [] x ≡ true)
All-stands_in (y ∷ ys) =
    All-cons (λ x. stands_in (y ∷ ys) x ≡ true) y ys (ap (λ b. b || stands_in ys y) (eq-eqb y y refl))
    (All-weaker (λ x. stands_in ys x ≡ true) (λ x. stands_in (y ∷ ys) x ≡ true) (λ x e. or_right (eqb y x) (stands_in ys x) e) ys (All-stands_in ys))

pub occurs-stands_in : (x : ℕ) (xs : List ℕ) → stands_in xs x ≡ true → 0 < occurrences x xs
occurs-stands_in x [] e = absurd (cc)
occurs-stands_in x (y ∷ ys) e =
    elim (cases_eq y x) [
      | inl same ↦ omega (arith, ap (λ z. occurrences z (y ∷ ys)) same, occurrences-here y ys)
      | inr other ↦
          let rest : stands_in ys x ≡ true = sym (ap (λ b. b || stands_in ys x) (ne_eqb y x other)) ∙ e in
          omega (arith, one_if-other y x other, occurs-stands_in x ys rest)
    ]

-- and nothing else: what holds of each holds of it
pub at-stands_in : (P : ℕ → Type 0) (xs : List ℕ) (x : ℕ) → All P xs → stands_in xs x ≡ true → P x
at-stands_in P xs x h e =
    grind (arith, at-place_of x xs (occurs-stands_in x xs e), place_of-lt x xs (occurs-stands_in x xs e))

-- ---- places of marked pieces

pub All-place_set : (low n : ℕ) (xs : List ℕ) → IsPlaceSetFrom low n xs → All (λ x. x < n) xs
All-place_set low n [] h = All-nil (λ x. x < n)
All-place_set low n (x ∷ xs) h = All-cons (λ x. x < n) x xs h.1 (All-place_set (suc x) n xs h.2)

pub All-places : (n k : ℕ) (set xs : List ℕ) → IsPlaceSet n k set → length xs ≡ n → All (λ place. place < length xs) set
All-places n k set xs h size = subst (λ m. All (λ place. place < m) set) (sym size) (All-place_set 0 n set h.increasing)

-- they are places
pub All-marked-below : (marked : ℕ → Bool) (xs : List ℕ) → All (λ place. place < length xs) (marked_places marked xs)
All-marked-below marked xs =
    All-place_set 0 (length xs) (marked_places marked xs) (IsPlaceSetFrom-marked marked 0 (length xs) xs (omega arith))

-- a place is one of them where its piece is marked
pub stands_in-places : (marked : ℕ → Bool) (xs : List ℕ) (place : ℕ) → place < length xs
    → stands_in (marked_places marked xs) place ≡ marked (slice_index xs place)
stands_in-places marked xs place lt = cc (zero-add place, stands_in-marked marked 0 place xs lt)

-- with marked pieces
pub All-marked : (marked : ℕ → Bool) (xs : List ℕ)
    → All (λ place. marked (slice_index xs place) ≡ true) (marked_places marked xs)
All-marked marked xs m d lt =
    sym (stands_in-places marked xs (get_or (marked_places marked xs) m d) (All-marked-below marked xs m d lt))
    ∙ All-stands_in (marked_places marked xs) m d lt

-- ---- pieces told by their places in a block

-- the places of its own pieces in a block are those in order
pub place_of-own : (low n j : ℕ) (block : List ℕ) → IsPlaceSetFrom low n block → j < length block
    → place_of (slice_index block j) block ≡ j
place_of-own low n j [] h lt = absurd (omega arith)
place_of-own low n zero (x ∷ xs) h lt = ap (λ b. cond b 0 (suc (place_of x xs))) (eq-eqb x x refl)
place_of-own low n (suc j) (x ∷ xs) h lt =
    grind (arith, false≢true, stands_in-later, All-stands_in, ne_eqb, place_of-own (suc x) n j xs h.2 (omega arith))

-- pieces that stand in a block are picked from it by their places there
pub pick-places : (block xs : List ℕ) → All (λ x. stands_in block x ≡ true) xs
    → pick block (map (λ x. place_of x block) xs) ≡ xs
pick-places block xs h = grind (arith, map-back, at-place_of, occurs-stands_in)

-- the places at which the pieces of a block stand, and these pieces in the order of their places, told by their places
-- in the block
abbrev pub places_in : List ℕ → List ℕ → List ℕ
places_in block xs = marked_places (stands_in block) xs

abbrev pub order_in : List ℕ → List ℕ → List ℕ
order_in block xs = map (λ x. place_of x block) (pick xs (places_in block xs))

pub pick-order_in : (block xs : List ℕ) → pick block (order_in block xs) ≡ pick xs (places_in block xs)
pick-order_in block xs =
    let places = places_in block xs in
    pick-places block (pick xs places) (All-map (λ x. stands_in block x ≡ true) (slice_index xs) places (All-marked (stands_in block) xs))

-- there are as many of these places as pieces in the block
pub IsPlaceSet-places_in : (n k : ℕ) (block xs : List ℕ) → IsPlaceSet n k block → IsPermutation n xs
    → IsPlaceSet n k (places_in block xs)
IsPlaceSet-places_in n k block xs set h =
    IsPlaceSet-marked n k (stands_in block) xs h (ap length (marked-own 0 n n block (omega arith) set.increasing) ∙ set.size)

pub length-places : (n k : ℕ) (block xs : List ℕ) → IsPlaceSet n k block → IsPermutation n xs
    → length (marked_places (stands_in block) xs) ≡ k
length-places n k block xs set h = (IsPlaceSet-places_in n k block xs set h).size

-- which is a permutation of them
module _ (n k : ℕ) (block xs : List ℕ) (set : IsPlaceSet n k block) (h : IsPermutation n xs) where
  each_in_order : (j : ℕ) → j < k → 0 < occurrences j (order_in block xs)
  each_in_order j lt =
      let places = places_in block xs in
      let piece : ℕ = slice_index block j in
      let piece_below : piece < n = All-place_set 0 n block set.increasing j 0 (omega (arith, set.size)) in
      let occurs : 0 < occurrences piece xs = omega (arith, h.once piece piece_below) in
      let place : ℕ = place_of piece xs in
      let there : slice_index xs place ≡ piece = at-place_of piece xs occurs in
      let in_set : 0 < occurrences place places =
      occurs-stands_in place places (stands_in-places (stands_in block) xs place (place_of-lt piece xs occurs)
      ∙ ap (stands_in block) there ∙ All-stands_in block j 0 (omega (arith, set.size))) in
      let m : ℕ = place_of place places in
      let m_below : m < length places = place_of-lt place places in_set in
      let at : slice_index (order_in block xs) m ≡ j =
      get_or-map (λ x. place_of x block) (pick xs places) m 0 0 (omega (arith, length-pick xs places))
      ∙ ap (λ x. place_of x block) (pick-at xs places m m_below ∙ ap (slice_index xs) (at-place_of place places in_set) ∙ there)
      ∙ place_of-own 0 n j block set.increasing (omega (arith, set.size)) in
      grind (arith, at, occurrences-at, length-map, places, length-pick)

  pub IsPermutation-order_in : IsPermutation k (order_in block xs)
  IsPermutation-order_in =
      grind (arith, IsPermutation-from_each, length-map, length-places n k block xs set h, each_in_order)

-- ---- pieces read and put back

-- the pieces at some places, in their order, put back to these places
pub pick-arranged : (n : ℕ) (xs places : List ℕ) → length xs ≡ n → IsPermutation n places
    → pick (pick xs places) (inverse places) ≡ xs
pick-arranged n xs places size h =
    let below = All-permutation n (inverse places) (IsPermutation-inverse n places h) in
    grind (arith, pick-pick, below, pick-inverse n places h, pick-all n xs size)

pub pick-append : (xs ks ls : List ℕ) → pick xs (ks ++ ls) ≡ pick xs ks ++ pick xs ls
pick-append xs ks ls = map-append (slice_index xs) ks ls
