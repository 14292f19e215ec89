-- The words of some turns are listed in the order of words; so the first of them that passes a test is the first word.
use Rattle.std.proofs.Common.{◌≡◌, ℕ, zero, suc, ◌+◌, ◌<◌, ◌≤◌, ◌⊎◌, inl, inr, Bool, IsTrue, List, [], ◌∷◌, ◌++◌, map, length, get_or, Option, Some, refl, sym, ap, ◌∙◌, arith}
use Rattle.std.specs.Prelude.{◌↔◌, All, Contains, filter, slice_get}
use Rattle.std.specs.List.{AllPairs, flat_map}
use Rattle.std.proofs.lemmas.Bool.{cases_lt}
use Rattle.std.proofs.lemmas.List.{get_or_default}
use Rattle.std.proofs.lemmas.List.Elements.{All-nil, All-append, All-map, All-weaker, All-contains_itself}
use Rattle.std.proofs.lemmas.List.Kept.{AllPairs-cons, AllPairs-filter}
use Rattle.std.proofs.lemmas.Option.{slice_get-get_or, slice_get_within, get_or_from_slice_get}
use Rattle.scr_combinatorics.specs.FirstWord.{LeadsTo, IsEarlier, IsFirstWord}
use Rattle.scr_combinatorics.specs.Lists.{numbers_from, ComesBefore}
use Rattle.scr_combinatorics.proofs.FirstWordLaws.{IsEarlier-asymmetric}
use Rattle.scr_combinatorics.proofs.Picks.{length-numbers_from, numbers_from-at}
use Rattle.scr_combinatorics.specs.Words.{words_of, words_within}
use Rattle.scr_table.proofs.WordLists.{All-flat_map}
use Rattle.scr_table.proofs.ListedWords.{All-numbers, IsListed-listed, Contains-words_within, IsWithin-listed, Contains-filter, Contains-passed}

-- ---- pairs of elements

AllPairs-nil : {X : Type 0} (R : X → X → Type 0) → AllPairs R []
AllPairs-nil R = λ i j d lt below. absurd (omega (arith, below))

AllPairs-head : {X : Type 0} (R : X → X → Type 0) (x : X) (xs : List X) → AllPairs R (x ∷ xs) → All (R x) xs
AllPairs-head R x xs h = λ k d lt. h 0 (suc k) d (omega arith) (omega (arith, lt))

AllPairs-tail : {X : Type 0} (R : X → X → Type 0) (x : X) (xs : List X) → AllPairs R (x ∷ xs) → AllPairs R xs
AllPairs-tail R x xs h = λ i j d lt below. h (suc i) (suc j) d (omega (arith, lt)) (omega (arith, below))

AllPairs-append : {X : Type 0} (R : X → X → Type 0) (xs ys : List X) → AllPairs R xs → AllPairs R ys
    → All (λ x. All (R x) ys) xs → AllPairs R (xs ++ ys)
AllPairs-append R [] ys h k across = k
AllPairs-append R (x ∷ xs) ys h k across =
    AllPairs-cons R x (xs ++ ys)
    (All-append (R x) xs ys (AllPairs-head R x xs h) (λ j d lt. across 0 x (omega arith) j d lt))
    (AllPairs-append R xs ys (AllPairs-tail R x xs h) k (λ j d lt. across (suc j) d (omega (arith, lt))))

AllPairs-map : {X Y : Type 0} (R : X → X → Type 0) (Q : Y → Y → Type 0) (f : X → Y)
    → ((x y : X) → R x y → Q (f x) (f y)) → (xs : List X) → AllPairs R xs → AllPairs Q (map f xs)
AllPairs-map R Q f keeps [] h = AllPairs-nil Q
AllPairs-map R Q f keeps (x ∷ xs) h =
    AllPairs-cons Q (f x) (map f xs)
    (All-map (Q (f x)) f xs (All-weaker (R x) (λ y. Q (f x) (f y)) (keeps x) xs (AllPairs-head R x xs h)))
    (AllPairs-map R Q f keeps xs (AllPairs-tail R x xs h))

AllPairs-flat_map : {X A : Type 0} (R : A → A → Type 0) (f : X → List A) (xs : List X) → All (λ x. AllPairs R (f x)) xs
    → AllPairs (λ x y. All (λ a. All (R a) (f y)) (f x)) xs → AllPairs R (flat_map f xs)
AllPairs-flat_map R f [] each across = AllPairs-nil R
AllPairs-flat_map R f (x ∷ xs) each across =
    AllPairs-append R (f x) (flat_map f xs) (each 0 x (omega arith))
    (AllPairs-flat_map R f xs (λ k d lt. each (suc k) d (omega (arith, lt))) (AllPairs-tail (λ x y. All (λ a. All (R a) (f y)) (f x)) x xs across))
    (λ k d lt. All-flat_map (R (get_or (f x) k d)) f xs
    (λ j e below. AllPairs-head (λ x y. All (λ a. All (R a) (f y)) (f x)) x xs across j e below k d lt))

-- ---- words in order

module _ (turns : List ℕ) (increasing : AllPairs (λ t u. t < u) turns) where
  -- those of one length
  ComesBefore-words_of : (n : ℕ) → AllPairs ComesBefore (words_of turns n)
  unfolding words_of
  ComesBefore-words_of zero = AllPairs-cons ComesBefore [] [] (All-nil (ComesBefore [])) (AllPairs-nil ComesBefore)
  ComesBefore-words_of (suc n) =
      let ws = words_of turns n in
      AllPairs-flat_map ComesBefore (λ t. map (λ w. t ∷ w) ws) turns
      (λ k d lt. let t : ℕ = get_or turns k d in
      AllPairs-map ComesBefore ComesBefore (λ w. t ∷ w) (λ v w before. inr (refl, before)) ws (ComesBefore-words_of n))
      (λ i j d lt below.
      let t : ℕ = get_or turns i d in
      let u : ℕ = get_or turns j d in
      let less : t < u = increasing i j d lt below in
      All-map (λ v. All (ComesBefore v) (map (λ w. u ∷ w) ws)) (λ v. t ∷ v) ws
      (λ k e there. All-map (ComesBefore (t ∷ get_or ws k e)) (λ w. u ∷ w) ws (λ l f here. inl less)))

  size_at : (n k : ℕ) (d : List ℕ) → k < length (words_of turns n) → length (get_or (words_of turns n) k d) ≡ n
  size_at n k d lt = (IsListed-listed turns n (get_or (words_of turns n) k d) (All-contains_itself (words_of turns n) k d lt)).size

  pub IsEarlier-words_within : (most : ℕ) → AllPairs IsEarlier (words_within turns most)
  unfolding words_within
  IsEarlier-words_within most =
      let lengths = numbers_from 0 (most + 1) in
      AllPairs-flat_map IsEarlier (words_of turns) lengths
      (λ k d lt i j e before below.
      let n : ℕ = get_or lengths k d in
      inr (size_at n i e (omega (arith, before, below)) ∙ sym (size_at n j e below), ComesBefore-words_of n i j e before below))
      (λ i j d before below k e lt l f there.
      let first = length-at most i d (omega (arith, before, below)) in
      let second = length-at most j d below in
      inl (omega (arith, size_at (get_or lengths i d) k e lt, size_at (get_or lengths j d) l f there, first, second, before)))
    where
      length-at : (most i d : ℕ) → i < length (numbers_from 0 (most + 1)) → get_or (numbers_from 0 (most + 1)) i d ≡ i
      length-at most i d lt =
          get_or_default (numbers_from 0 (most + 1)) i d 0 lt
          ∙ omega (arith, numbers_from-at 0 (most + 1) i (omega (arith, lt, length-numbers_from 0 (most + 1))))

-- turns by their numbers
pub increasing-numbers : (n : ℕ) → AllPairs (λ t u. t < u) (numbers_from 0 n)
increasing-numbers n i j d lt below =
    let size = length-numbers_from 0 n in
    grind (
      arith,
      get_or_default (numbers_from 0 n) i d 0 (omega (arith, lt, below)),
      get_or_default (numbers_from 0 n) j d 0 below,
      numbers_from-at 0 n i (omega (arith, lt, below, size)),
      numbers_from-at 0 n j (omega (arith, below, size)),
    )

-- ---- those that lead to a goal

module _ {S : Type 0} (after : S → ℕ → Option S) (IsGoal : S → Type 0) (s : S) (turns most : ℕ) (test : List ℕ → Bool)
    (tested : (w : List ℕ) → IsTrue (test w) ↔ LeadsTo after IsGoal s w)
    (below : (w : List ℕ) → LeadsTo after IsGoal s w → All (λ t. t < turns) w) where
  abbrev pub listed : List (List ℕ)
  listed = filter test (words_within (numbers_from 0 turns) most)

  -- they are listed in order,
  pub IsEarlier-listed : AllPairs IsEarlier (filter test (words_within (numbers_from 0 turns) most))
  IsEarlier-listed =
      AllPairs-filter IsEarlier test (words_within (numbers_from 0 turns) most)
      (IsEarlier-words_within (numbers_from 0 turns) (increasing-numbers turns) most)

  -- all of them that are not too long, and no other
  pub Contains-listed : (w : List ℕ) → Contains (filter test (words_within (numbers_from 0 turns) most)) w
      ↔ (length w ≤ most) × LeadsTo after IsGoal s w
  Contains-listed w =
      let words = words_within (numbers_from 0 turns) most in (
        λ there.
            let passed = Contains-passed test words w there in
            ((IsWithin-listed (numbers_from 0 turns) most w passed.0).size, (tested w).0 passed.1),
        λ is.
            Contains-filter test words w
            (Contains-words_within (numbers_from 0 turns) most w is.0 (All-numbers turns w (below w is.1))) ((tested w).1 is.1),
      )

  -- the one that is listed first
  module _ (w : List ℕ) (e : slice_get listed 0 ≡ Some w) where
    inside : 0 < length listed
    inside = slice_get_within listed 0 w e

    leads : (length w ≤ most) × LeadsTo after IsGoal s w
    leads = (Contains-listed w).0 (0, inside, get_or_from_slice_get listed 0 w w e)

    found_at : (v : List ℕ) (k : ℕ) → k < length listed → get_or listed k v ≡ v → (v ≡ w) ⊎ IsEarlier w v
    found_at v k h0 h1 = grind (arith, get_or_from_slice_get, IsEarlier-listed)

    later : (v : List ℕ) → LeadsTo after IsGoal s v → (most < length v) ⊎ (length v ≤ most) → (v ≡ w) ⊎ IsEarlier w v
    later v h0 h1 = grind (arith, leads, Contains-listed, found_at)

    IsFirstWord-listed : IsFirstWord after IsGoal s w
    IsFirstWord-listed = record { leads = leads.1; first = λ v l. later v l (cases_lt most (length v)) }

  -- is the first word, and that one is listed first
  pub first-listed : (w : List ℕ) → slice_get (filter test (words_within (numbers_from 0 turns) most)) 0 ≡ Some w
      ↔ IsFirstWord after IsGoal s w × (length w ≤ most)
  first-listed w = (λ e. (IsFirstWord-listed w e, (leads w e).0), λ is. listed_first w is.0 is.1)
    where
      same : (w head : List ℕ) → slice_get listed 0 ≡ Some head → LeadsTo after IsGoal s w
          → (head ≡ w) ⊎ IsEarlier w head → head ≡ w
      same w head at l (inl e) = e
      same w head at l (inr earlier) =
          elim ((IsFirstWord-listed head at).first w l) [
            | inl e ↦ sym e
            | inr before ↦ absurd (IsEarlier-asymmetric w head earlier before)
          ]

      listed_first : (w : List ℕ) → IsFirstWord after IsGoal s w → length w ≤ most → slice_get listed 0 ≡ Some w
      listed_first w is few =
          let there = (Contains-listed w).1 (few, is.leads) in
          let some : 0 < length listed = omega (arith, there.1) in
          let head : List ℕ = get_or listed 0 [] in
          let at : slice_get listed 0 ≡ Some head = slice_get-get_or listed 0 [] some in
          at ∙ ap Some (same w head at is.leads (is.first head ((Contains-listed head).0 (0, some, get_or_default listed 0 head [] some)).1))
