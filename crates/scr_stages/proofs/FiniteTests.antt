-- What holds of each number below a count, of each element of a list, and of each permutation of few numbers, as the
-- checker computes.
use Rattle.std.proofs.Common.{◌≡◌, ℕ, ◌<◌, Bool, true, false, not, List, [], ◌∷◌, length, map, refl, sym, ap, ◌∙◌, arith}
use Rattle.std.specs.List.{All, list_all, range_with_len}
use Rattle.std.proofs.lemmas.List.{get_or-map, map-id}
use Rattle.std.proofs.lemmas.List.Elements.{All-head, All-tail}
use Rattle.std.proofs.lemmas.List.Sums.{AllPass-from_list_all}
use Rattle.std.proofs.lemmas.Simd.{map-map}
use Rattle.scr_combinatorics.specs.Lists.{numbers_from, pick}
use Rattle.scr_combinatorics.specs.Permutations.{IsPermutation, factorial, permutation_at, is_permutation}
use Rattle.scr_combinatorics.specs.Numbering.{IsOneToOne}
use Rattle.scr_combinatorics.specs.PlaceSets.{IsPlaceSet}
use Rattle.scr_combinatorics.proofs.Picks.{length-numbers_from, numbers_from-at, pick-in_order}
use Rattle.scr_combinatorics.proofs.PermutationLaws.{IsPermutation-from_test, IsPermutation-numbers_from}
use Rattle.scr_combinatorics.proofs.PermutationNumbers.{permutations_one_to_one}
use Rattle.scr_orbit.proofs.Parts.{ap_both}
use Rattle.scr_coord.specs.Projections.{marked_places, stands_in}
use Rattle.scr_coord.proofs.MarkedPieces.{IsPlaceSet-marked}
use Rattle.scr_cube.proofs.Holds.{at_each}

-- ---- each number below n

-- passes a test
unfoldable pub passes_below : (ℕ → Bool) → ℕ → Bool
passes_below test n = list_all test (numbers_from 0 n)

pub test-below : (test : ℕ → Bool) (n k : ℕ) → passes_below test n ≡ true → k < n → test k ≡ true
unfolding passes_below
test-below test n k all lt =
    let each = AllPass-from_list_all test (numbers_from 0 n) all in
    grind (arith, numbers_from-at 0 n k lt, each k 0 (omega (arith, length-numbers_from 0 n)))

-- a list of n pieces that is found for each number, and has it
pub record HasOwn (n : ℕ) (number_of : List ℕ → ℕ) (list_at : ℕ → List ℕ) (number : ℕ) : Type 0 where
  pub permutation : IsPermutation n (list_at number)
  pub same : number_of (list_at number) ≡ number

pub HasOwn-each : (n count : ℕ) (number_of : List ℕ → ℕ) (list_at : ℕ → List ℕ)
    → map (λ k. is_permutation n (list_at k)) (range_with_len 0 count) ≡ map (λ k. true) (range_with_len 0 count)
    → map (λ k. number_of (list_at k)) (range_with_len 0 count) ≡ map (λ k. k) (range_with_len 0 count) → (number : ℕ)
    → number < count → HasOwn n number_of list_at number
HasOwn-each n count number_of list_at lists numbers number lt = record {
  permutation = IsPermutation-from_test n (list_at number) (at_each (λ k. is_permutation n (list_at k)) (λ k. true) count lists number lt);
  same = at_each (λ k. number_of (list_at k)) (λ k. k) count numbers number lt;
}

-- two tests answer the same
unfoldable pub agree : Bool → Bool → Bool
agree true b = b
agree false b = not b

pub agree-same : (a b : Bool) → agree a b ≡ true → a ≡ b
unfolding agree
agree-same a b h0 = grind arith

-- ---- each state of those that are numbered one to one, as each permutation of n numbers

-- functions that agree on the state of each number
pub at_numbered : {S X : Type 0} {count : ℕ} {state_at : ℕ → S} {number_of : S → ℕ} {IsValid : S → Type 0} (f g : S → X)
    → IsOneToOne count state_at number_of IsValid
    → map (λ k. f (state_at k)) (range_with_len 0 count) ≡ map (λ k. g (state_at k)) (range_with_len 0 count) → (s : S)
    → IsValid s → f s ≡ g s
at_numbered {count = count} {state_at = state_at} {number_of = number_of} f g one e s h =
    sym (ap f (one.state_again s h))
    ∙ at_each (λ k. f (state_at k)) (λ k. g (state_at k)) count e (number_of s) (one.below s h)
    ∙ ap g (one.state_again s h)

-- what a function makes of each of them
abbrev pub on_all : {X : Type 0} → (List ℕ → X) → ℕ → List X
on_all f n = map (λ k. f (permutation_at n k)) (range_with_len 0 (factorial n))

-- functions that agree on each
pub at_permutation : {X : Type 0} (f g : List ℕ → X) (n : ℕ) → on_all f n ≡ on_all g n → (xs : List ℕ)
    → IsPermutation n xs → f xs ≡ g xs
at_permutation f g n = at_numbered f g (permutations_one_to_one n)

pub at_permutations : {X : Type 0} (f g : List ℕ → List ℕ → X) (m n : ℕ)
    → on_all (λ xs. on_all (f xs) n) m ≡ on_all (λ xs. on_all (g xs) n) m → (xs ys : List ℕ) → IsPermutation m xs
    → IsPermutation n ys → f xs ys ≡ g xs ys
at_permutations f g m n e xs ys h k = grind (arith, at_permutation)

-- ---- each element of a list

-- functions that agree on each
pub at_element : {X Y : Type 0} (f g : X → Y) (xs : List X) → map f xs ≡ map g xs → All (λ x. f x ≡ g x) xs
at_element f g xs e k d lt = cc (get_or-map f xs k d (f d) lt, get_or-map g xs k d (f d) lt)

pub map-same : {X Y : Type 0} (f g : X → Y) (xs : List X) → All (λ x. f x ≡ g x) xs → map f xs ≡ map g xs
map-same f g [] h = refl
map-same f g (x ∷ xs) h =
    ap_both (λ y ys. y ∷ ys) (All-head (λ x. f x ≡ g x) x xs h) (map-same f g xs (All-tail (λ x. f x ≡ g x) x xs h))

-- one that undoes another on each
pub map-back : {X Y : Type 0} (f : Y → X) (g : X → Y) (xs : List X) → All (λ x. f (g x) ≡ x) xs → map f (map g xs) ≡ xs
map-back f g xs h = map-map f g xs ∙ map-same (λ x. f (g x)) (λ x. x) xs h ∙ map-id xs

-- ---- lists of places

-- all places in order
pub pick-all : (n : ℕ) (xs : List ℕ) → length xs ≡ n → pick xs (numbers_from 0 n) ≡ xs
pick-all n xs size = ap (λ m. pick xs (numbers_from 0 m)) (sym size) ∙ pick-in_order xs

-- a list that has its places in order
pub IsPlaceSet-own : (n k : ℕ) (block : List ℕ) → marked_places (stands_in block) (numbers_from 0 n) ≡ block
    → length block ≡ k → IsPlaceSet n k block
IsPlaceSet-own n k block own size = grind (arith, IsPlaceSet-marked, IsPermutation-numbers_from)
