-- Which words are listed, and which of them pass a test.
use Rattle.std.proofs.Common.{◌≡◌, ℕ, zero, suc, ◌+◌, ◌<◌, ◌≤◌, Bool, true, false, cond, List, [], ◌∷◌, map, length, arith}
use Rattle.std.proofs.Common.{get_or, Option, Some, refl, sym, ap, ◌∙◌, subst, arith}
use Rattle.std.specs.Prelude.{All, Contains, IsSome, filter, find, slice_index_or}
use Rattle.std.specs.List.{flat_map}
use Rattle.std.proofs.lemmas.List.{length-map, get_or-map, get_or_default}
use Rattle.std.proofs.lemmas.List.Elements.{All-nil, All-head, All-tail, All-weaker, All-contains}
use Rattle.std.proofs.lemmas.List.Elements.{All-contains_itself, Contains-append_left, Contains-append_right}
use Rattle.scr_combinatorics.specs.Lists.{numbers_from}
use Rattle.scr_combinatorics.proofs.Picks.{length-numbers_from, numbers_from-at, length-pick, All-pick}
use Rattle.scr_combinatorics.specs.Words.{words_of, words_within}
use Rattle.scr_table.proofs.WordLists.{IsWordOf, words_of-each, All-flat_map}

-- ---- lists of lists

Contains-flat_map : {X A : Type 0} (f : X → List A) (xs : List X) (x : X) (a : A) → Contains xs x → Contains (f x) a
    → Contains (flat_map f xs) a
Contains-flat_map f [] x a (k, lt, e) h = absurd (omega arith)
Contains-flat_map f (y ∷ xs) x a (zero, lt, e) h = grind (arith, Contains-append_left)
Contains-flat_map f (y ∷ xs) x a (suc k, lt, e) h =
    Contains-append_right (f y) (flat_map f xs) a (Contains-flat_map f xs x a (k, omega arith, e) h)

Contains-map : {X A : Type 0} (f : X → A) (xs : List X) (x : X) → Contains xs x → Contains (map f xs) (f x)
Contains-map f xs x (k, lt, e) = (k, omega (arith, length-map xs f), get_or-map f xs k x (f x) lt ∙ ap f e)

pub Contains-numbers : (n k : ℕ) → k < n → Contains (numbers_from 0 n) k
Contains-numbers n k lt =
    let inside : k < length (numbers_from 0 n) = omega (arith, length-numbers_from 0 n) in
    (k, inside, get_or_default (numbers_from 0 n) k k 0 inside ∙ numbers_from-at 0 n k lt ∙ omega arith)

-- ---- words of some turns

module _ (turns : List ℕ) where
  pub Contains-words_of : (n : ℕ) (w : List ℕ) → length w ≡ n → All (Contains turns) w → Contains (words_of turns n) w
  unfolding words_of
  Contains-words_of zero [] e each = (0, omega arith, refl)
  Contains-words_of zero (t ∷ w) e each = absurd (omega arith)
  Contains-words_of (suc n) [] e each = absurd (omega arith)
  Contains-words_of (suc n) (t ∷ w) e each =
      Contains-flat_map (λ u. map (λ v. u ∷ v) (words_of turns n)) turns t (t ∷ w) (All-head (Contains turns) t w each)
      (Contains-map (λ v. t ∷ v) (words_of turns n) w
      (Contains-words_of n w (omega arith) (All-tail (Contains turns) t w each)))

  -- a word of so many of these turns
  pub record IsListed (n : ℕ) (w : List ℕ) : Type 0 where
    pub size : length w ≡ n
    pub each : All (Contains turns) w

  IsListed-word : (n : ℕ) (w : List ℕ) → IsWordOf turns n w → IsListed n w
  IsListed-word n w h = record {
    size = ap length h.is ∙ length-pick turns h.places ∙ h.size;
    each =
        subst (All (Contains turns)) (sym h.is)
        (All-pick (Contains turns) turns h.places (All-contains_itself turns) h.below);
  }

  pub IsListed-listed : (n : ℕ) (w : List ℕ) → Contains (words_of turns n) w → IsListed n w
  IsListed-listed n w there =
      IsListed-word n w (All-contains (IsWordOf turns n) (words_of turns n) w (words_of-each turns n) there)

  -- those of at most so many letters
  pub Contains-words_within : (most : ℕ) (w : List ℕ) → length w ≤ most → All (Contains turns) w
      → Contains (words_within turns most) w
  unfolding words_within
  Contains-words_within most w le each =
      Contains-flat_map (words_of turns) (numbers_from 0 (most + 1)) (length w) w
      (Contains-numbers (most + 1) (length w) (omega arith))
      (Contains-words_of (length w) w refl each)

  pub record IsWithin (most : ℕ) (w : List ℕ) : Type 0 where
    pub size : length w ≤ most
    pub each : All (Contains turns) w

  pub IsWithin-each : (most : ℕ) → All (IsWithin most) (words_within turns most)
  unfolding words_within
  IsWithin-each most =
      All-flat_map (IsWithin most) (words_of turns) (numbers_from 0 (most + 1)) (λ k d lt.
      let n : ℕ = get_or (numbers_from 0 (most + 1)) k d in
      let short : k < most + 1 = omega (arith, length-numbers_from 0 (most + 1)) in
      let is : n ≡ k =
      get_or_default (numbers_from 0 (most + 1)) k d 0 lt ∙ numbers_from-at 0 (most + 1) k short ∙ omega arith in
      All-weaker (IsWordOf turns n) (IsWithin most)
      (λ w h. let l = IsListed-word n w h in record { size = omega (arith, l.size, is, short); each = l.each })
      (words_of turns n) (words_of-each turns n))

  pub IsWithin-listed : (most : ℕ) (w : List ℕ) → Contains (words_within turns most) w → IsWithin most w
  IsWithin-listed most w there = All-contains (IsWithin most) (words_within turns most) w (IsWithin-each most) there

-- those of the turns below a number
pub All-numbers : (n : ℕ) (w : List ℕ) → All (λ t. t < n) w → All (Contains (numbers_from 0 n)) w
All-numbers n w below k d lt = Contains-numbers n (slice_index_or w k d) (below k d lt)

pub All-below : (n : ℕ) (w : List ℕ) → All (Contains (numbers_from 0 n)) w → All (λ t. t < n) w
All-below n w each k d lt =
    grind (
      arith,
      length-numbers_from 0 n,
      get_or_default (numbers_from 0 n) (each k d lt).0 (slice_index_or w k d) 0 (each k d lt).1,
      numbers_from-at,
    )

-- ---- tests

module _ {X : Type 0} (test : X → Bool) where
  kept_later : (b : Bool) (y x : X) (xs : List X) → Contains xs x
      → Contains (let ys : List X = cond b (y ∷ xs) xs in ys) x
  kept_later true y x xs (k, lt, e) = (suc k, omega arith, e)
  kept_later false y x xs h = h

  pub Contains-filter : (xs : List X) (x : X) → Contains xs x → test x ≡ true → Contains (filter test xs) x
  Contains-filter [] x (k, lt, e) passes = absurd (omega arith)
  Contains-filter (y ∷ xs) x (zero, lt, e) passes = grind arith
  Contains-filter (y ∷ xs) x (suc k, lt, e) passes =
      kept_later (test y) y x (filter test xs) (Contains-filter xs x (k, omega arith, e) passes)

  kept_each : (b : Bool) (P : X → Type 0) (x : X) (xs : List X) → (b ≡ true → P x) → All P xs
      → All P (let ys : List X = cond b (x ∷ xs) xs in ys)
  kept_each b P x xs h0 h1 = grind arith

  filter-each : (P : X → Type 0) (xs : List X) → All P xs → All (λ x. P x × (test x ≡ true)) (filter test xs)
  filter-each P [] each = All-nil (λ x. P x × (test x ≡ true))
  filter-each P (x ∷ xs) each = grind (arith, kept_each, All-head, All-tail, filter-each P xs (All-tail P x xs each))

  -- what passes is one of the list, and passes
  pub Contains-passed : (xs : List X) (x : X) → Contains (filter test xs) x → Contains xs x × (test x ≡ true)
  Contains-passed xs x there = grind (arith, All-contains, filter-each (Contains xs) xs (All-contains_itself xs))

  -- the first that passes
  IsSome-kept : (b : Bool) (x : X) (o : Option X) → (b ≡ false → IsSome o)
      → IsSome (let p : Option X = cond b (Some x) o in p)
  IsSome-kept b x o h0 = grind arith

  pub IsSome-find : (xs : List X) (x : X) → Contains xs x → test x ≡ true → IsSome (find test xs)
  IsSome-find [] x (k, lt, e) passes = absurd (omega arith)
  IsSome-find (y ∷ xs) x (zero, lt, e) passes = grind arith
  IsSome-find (y ∷ xs) x (suc k, lt, e) passes =
      IsSome-kept (test y) y (find test xs) (λ fails. IsSome-find xs x (k, omega arith, e) passes)

  found_by : (b : Bool) (P : X → Type 0) (y x : X) (o : Option X) → (b ≡ true → P y) → (o ≡ Some x → P x)
      → (let p : Option X = cond b (Some y) o in p) ≡ Some x → P x
  found_by true P y x o h rest e = let same : y ≡ x = cc in subst P same (h refl)
  found_by false P y x o h rest e = rest e

  pub found : (P : X → Type 0) (xs : List X) (x : X) → All P xs → find test xs ≡ Some x → P x × (test x ≡ true)
  found P [] x each e = absurd (cc)
  found P (y ∷ xs) x each e =
      found_by (test y) (λ z. P z × (test z ≡ true)) y x (find test xs) (λ passes. (All-head P y xs each, passes))
      (λ later. found P xs x (All-tail P y xs each) later) e
