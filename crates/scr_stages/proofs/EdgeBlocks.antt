-- Edges by their three blocks.
use Rattle.std.proofs.Common.{◌≡◌, ℕ, ◌+◌, ◌%◌, ◌<◌, ◌≤◌, List, [], ◌∷◌, ◌++◌, length, take, drop, refl, sym, ap, ◌∙◌, subst, arith, lit≤}
use Rattle.std.specs.Prelude.{All}
use Rattle.std.proofs.lemmas.List.{length-append, take_at, drop_at}
use Rattle.std.proofs.lemmas.List.Elements.{All-head, All-tail, All-weaker, All-from_recursion}
use Rattle.scr_combinatorics.specs.Lists.{lesser_count, occurrences, numbers_from, pick}
use Rattle.scr_combinatorics.specs.Permutations.{IsPermutation, inversions, parity, permutation_at, inverse}
use Rattle.scr_combinatorics.proofs.Counts.{one_if-ge}
use Rattle.scr_combinatorics.proofs.Parities.{parity-pick}
use Rattle.scr_combinatorics.proofs.PermutationLaws.{All-permutation, IsPermutation-from_test, IsPermutation-inverse, IsPermutation-numbers_from, IsPermutation-pick, IsPermutation-rearranged, IsRearranged-permutations, IsRearranged-pick, inverse-pick}
use Rattle.scr_combinatorics.proofs.Picks.{All-pick, length-pick, pick-pick}
use Rattle.scr_orbit.proofs.Parts.{ap_both}
use Rattle.scr_stages.specs.Stages.{middle_edges}
use Rattle.scr_stages.specs.Numbers.{first_edges, second_edges, edges_of_blocks}
use Rattle.scr_stages.proofs.Blocks.{pick-append}
use Rattle.scr_stages.proofs.FiniteTests.{at_permutation, pick-all}

-- ---- a list, and another behind it that has the higher numbers

occurrences-append : (x : ℕ) (xs ys : List ℕ) → occurrences x (xs ++ ys) ≡ occurrences x xs + occurrences x ys
occurrences-append x [] ys = omega arith
occurrences-append x (z ∷ zs) ys = omega (arith, occurrences-append x zs ys)

lesser_count-append : (x : ℕ) (ys zs : List ℕ) → lesser_count x (ys ++ zs) ≡ lesser_count x ys + lesser_count x zs
lesser_count-append x [] zs = omega arith
lesser_count-append x (y ∷ ys) zs = omega (arith, lesser_count-append x ys zs)

lesser_count-none : (x : ℕ) (ys : List ℕ) → All (λ y. x ≤ y) ys → lesser_count x ys ≡ 0
lesser_count-none x [] h = refl
lesser_count-none x (y ∷ ys) h =
    omega (arith, one_if-ge y x (All-head (λ y. x ≤ y) y ys h), lesser_count-none x ys (All-tail (λ y. x ≤ y) y ys h))

-- no pair falls whose first is of the one and whose second of the other
inversions-append : (n : ℕ) (xs ys : List ℕ) → All (λ x. x < n) xs → All (λ y. n ≤ y) ys
    → inversions (xs ++ ys) ≡ inversions xs + inversions ys
inversions-append n [] ys low high = omega arith
inversions-append n (x ∷ xs) ys low high =
    let below : x < n = All-head (λ x. x < n) x xs low in
    let above = All-weaker (λ y. n ≤ y) (λ y. x ≤ y) (λ y le. omega arith) ys high in
    omega (
      arith,
      lesser_count-append x xs ys,
      lesser_count-none x ys above,
      inversions-append n xs ys (All-tail (λ x. x < n) x xs low) high,
    )

-- lists that are joined alike are the same
joined_parts : (a b x y : List ℕ) → length a ≡ length x → a ++ b ≡ x ++ y → (a ≡ x) × (b ≡ y)
joined_parts a b x y same e = (
  sym (take_at a b (length a) refl) ∙ ap (take (length a)) e ∙ take_at x y (length a) (sym same),
  sym (drop_at a b (length a) refl) ∙ ap (drop (length a)) e ∙ drop_at x y (length a) (sym same),
)

-- n pieces, and those of a block of all the others, four, in some order
pub record IsBehind (n : ℕ) (block : List ℕ) : Type 0 where
  pub size : length block ≡ 4
  pub all : numbers_from 0 (n + 4) ≡ numbers_from 0 n ++ block
  pub above : All (λ x. n ≤ x) block
  pub same_parity : (ys : List ℕ) → IsPermutation 4 ys → parity (pick block ys) ≡ parity ys

module _ (n : ℕ) (block : List ℕ) (is : IsBehind n block) (xs ys : List ℕ) (h : IsPermutation n xs) (k : IsPermutation 4 ys) where
  pub IsPermutation-behind : IsPermutation (n + 4) (xs ++ pick block ys)
  IsPermutation-behind =
      IsPermutation-rearranged (n + 4) (numbers_from 0 n ++ block) (xs ++ pick block ys) (subst (IsPermutation (n + 4)) is.all (IsPermutation-numbers_from (n + 4))) (λ x.
      omega (
        arith,
        occurrences-append x (numbers_from 0 n) block,
        occurrences-append x xs (pick block ys),
        IsRearranged-permutations n (numbers_from 0 n) xs (IsPermutation-numbers_from n) h x,
        IsRearranged-pick block ys (subst (λ m. IsPermutation m ys) (sym is.size) k) x,
      ))

  pub parity-behind : parity (xs ++ pick block ys) ≡ (parity xs + parity ys) % 2
  parity-behind =
      let below = subst (λ m. All (λ j. j < m) ys) (sym is.size) (All-permutation 4 ys k) in
      omega (
        arith,
        inversions-append n xs (pick block ys) (All-permutation n xs h) (All-pick (λ x. n ≤ x) block ys is.above below),
        is.same_parity ys k,
      )

  -- what stands at the places of each
  pub behind-picked : (pick (xs ++ pick block ys) (numbers_from 0 n) ≡ xs) × (pick (xs ++ pick block ys) block ≡ pick block ys)
  behind-picked =
      let all = xs ++ pick block ys in
      joined_parts (pick all (numbers_from 0 n)) (pick all block) xs (pick block ys)
      (length-pick all (numbers_from 0 n) ∙ (IsPermutation-numbers_from n).size ∙ sym h.size)
      (sym (pick-append all (numbers_from 0 n) block) ∙ ap (pick all) (sym is.all) ∙ pick-all (n + 4) all IsPermutation-behind.size)

-- the second four, and the edges of the middle layer
abbrev second_four : List ℕ
second_four = 4 ∷ 5 ∷ 6 ∷ 7 ∷ []

IsBehind-second : IsBehind 4 second_four
unfolding permutation_at
IsBehind-second = record {
  size = refl;
  all = refl;
  above = All-from_recursion (λ x. 4 ≤ x) second_four (lit≤ tt, (lit≤ tt, (lit≤ tt, (lit≤ tt, tt))));
  same_parity = at_permutation (λ ys. parity (pick second_four ys)) parity 4 refl;
}

pub IsBehind-middle : IsBehind 8 middle_edges
unfolding permutation_at
IsBehind-middle = record {
  size = refl;
  all = refl;
  above = All-from_recursion (λ x. 8 ≤ x) middle_edges (lit≤ tt, (lit≤ tt, (lit≤ tt, (lit≤ tt, tt))));
  same_parity = at_permutation (λ ys. parity (pick middle_edges ys)) parity 4 refl;
}

-- ---- three lists that each tell a block

-- the places block by block
abbrev pub block_places : List ℕ
block_places = first_edges ++ second_edges ++ middle_edges

pub IsPermutation-block_places : IsPermutation 12 block_places
IsPermutation-block_places = IsPermutation-from_test 12 block_places refl

-- the edges at the places of each block
pub record PicksBlocks (edges a b c : List ℕ) : Type 0 where
  pub first : pick edges first_edges ≡ pick first_edges a
  pub second : pick edges second_edges ≡ pick second_edges b
  pub third : pick edges middle_edges ≡ pick middle_edges c

module _ (a b c : List ℕ) (ha : IsPermutation 4 a) (hb : IsPermutation 4 b) (hc : IsPermutation 4 c) where
  abbrev front : List ℕ
  front = a ++ pick second_four b

  abbrev orders : List ℕ
  orders = front ++ pick middle_edges c

  abbrev picked_blocks : List ℕ
  picked_blocks = pick first_edges a ++ pick second_edges b ++ pick middle_edges c

  IsPermutation-front : IsPermutation 8 front
  IsPermutation-front = IsPermutation-behind 4 second_four IsBehind-second a b ha hb

  IsPermutation-orders : IsPermutation 12 orders
  IsPermutation-orders = IsPermutation-behind 8 middle_edges IsBehind-middle front c IsPermutation-front hc

  IsPermutation-picked : IsPermutation 12 (pick block_places orders)
  IsPermutation-picked = IsPermutation-pick 12 block_places orders IsPermutation-block_places IsPermutation-orders

  -- the three lists one behind another tell the blocks
  blocks-are : pick block_places orders ≡ picked_blocks
  unfolding permutation_at
  blocks-are =
      pick-append block_places front (pick middle_edges c)
      ∙ ap_both (λ xs ys. xs ++ ys)
      (pick-append block_places a (pick second_four b)
      ∙ ap_both (λ xs ys. xs ++ ys) (at_permutation (pick block_places) (pick first_edges) 4 refl a ha)
      (at_permutation (λ b. pick block_places (pick second_four b)) (pick second_edges) 4 refl b hb))
      (at_permutation (λ c. pick block_places (pick middle_edges c)) (pick middle_edges) 4 refl c hc)

  edges_are : edges_of_blocks a b c ≡ pick (pick block_places orders) (inverse block_places)
  unfolding edges_of_blocks
  edges_are = ap (λ xs. pick xs (inverse block_places)) (sym blocks-are)

  pub IsPermutation-edges : IsPermutation 12 (edges_of_blocks a b c)
  IsPermutation-edges =
      subst (IsPermutation 12) (sym edges_are)
      (IsPermutation-pick 12 (pick block_places orders) (inverse block_places) IsPermutation-picked (IsPermutation-inverse 12 block_places IsPermutation-block_places))

  pub parity-edges : parity (edges_of_blocks a b c) ≡ (parity a + parity b + parity c) % 2
  parity-edges =
      grind (
        arith,
        edges_are,
        parity-pick 12 (pick block_places orders) (inverse block_places) IsPermutation-picked (IsPermutation-inverse 12 block_places IsPermutation-block_places),
        parity-pick 12 block_places orders IsPermutation-block_places IsPermutation-orders,
        parity-behind 8 middle_edges IsBehind-middle front c IsPermutation-front hc,
        parity-behind 4 second_four IsBehind-second a b ha hb,
      )

  -- block by block, the edges are those that are picked
  pub PicksBlocks-edges : PicksBlocks (edges_of_blocks a b c) a b c
  PicksBlocks-edges =
      let e = edges_of_blocks a b c in
      let xs = pick block_places orders in
      let is = IsPermutation-block_places in
      let undone = IsPermutation-inverse 12 block_places is in
      let again : pick e block_places ≡ xs =
      ap (λ ys. pick ys block_places) edges_are
      ∙ pick-pick xs (inverse block_places) block_places
      (subst (λ n. All (λ k. k < n) block_places) (sym undone.size) (All-permutation 12 block_places is))
      ∙ ap (pick xs) (inverse-pick 12 block_places is) ∙ pick-all 12 xs IsPermutation-picked.size in
      let outer = joined_parts (pick e (first_edges ++ second_edges)) (pick e middle_edges) (pick first_edges a ++ pick second_edges b) (pick middle_edges c)
      (length-pick e (first_edges ++ second_edges) ∙ sym (length-append (pick first_edges a) (pick second_edges b)
      ∙ omega (arith, length-pick first_edges a, length-pick second_edges b, ha.size, hb.size)))
      (sym (pick-append e (first_edges ++ second_edges) middle_edges) ∙ again ∙ blocks-are) in
      let inner = joined_parts (pick e first_edges) (pick e second_edges) (pick first_edges a) (pick second_edges b)
      (length-pick e first_edges ∙ sym (length-pick first_edges a ∙ ha.size)) (sym (pick-append e first_edges second_edges) ∙ outer.0) in
      record { first = inner.0; second = inner.1; third = outer.1 }
