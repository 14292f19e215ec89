-- The words behind a word: what a search goes through, turn by turn.
use Rattle.std.proofs.Common.{◌≡◌, ℕ, zero, suc, ◌+◌, ◌-◌, ◌<◌, ◌≤◌, Bool, false, cond, List, [], ◌∷◌, ◌++◌, map, length, arith}
use Rattle.std.proofs.Common.{get_or, take, Option, Some, refl, sym, ap, ◌∙◌, append_assoc, length-append, arith}
use Rattle.std.specs.Prelude.{All, Contains, filter, find, slice_get}
use Rattle.std.specs.List.{flat_map}
use Rattle.std.specs.Option.{option_map}
use Rattle.std.proofs.Math.Seq.{take-append_seam}
use Rattle.std.proofs.lemmas.List.{append-nil, map-append, get_or_default}
use Rattle.std.proofs.lemmas.List.Elements.{All-nil, All-cons, All-head, All-tail, All-append, All-contains, All-map, All-weaker}
use Rattle.std.proofs.lemmas.List.Elements.{All-contains_itself, filter-append}
use Rattle.scr_combinatorics.specs.Lists.{numbers_from, pick}
use Rattle.scr_combinatorics.specs.Words.{words_of, words_within, words_behind}

-- ---- lists of lists

pub filter-none : {X : Type 0} (test : X → Bool) (xs : List X) → All (λ x. test x ≡ false) xs → filter test xs ≡ []
filter-none test [] h = refl
filter-none test (x ∷ xs) h =
    ap (λ b. cond b (x ∷ filter test xs) (filter test xs)) (All-head (λ y. test y ≡ false) x xs h)
    ∙ filter-none test xs (All-tail (λ y. test y ≡ false) x xs h)

pub filter-flat_map : {X A : Type 0} (test : A → Bool) (f : X → List A) (xs : List X)
    → filter test (flat_map f xs) ≡ flat_map (λ x. filter test (f x)) xs
filter-flat_map test f [] = refl
filter-flat_map test f (x ∷ xs) = filter-append test (f x) (flat_map f xs) ∙ ap (λ ys. filter test (f x) ++ ys) (filter-flat_map test f xs)

pub map-flat_map : {X A B : Type 0} (g : A → B) (f : X → List A) (xs : List X)
    → map g (flat_map f xs) ≡ flat_map (λ x. map g (f x)) xs
map-flat_map g f [] = refl
map-flat_map g f (x ∷ xs) = map-append g (f x) (flat_map f xs) ∙ ap (λ ys. map g (f x) ++ ys) (map-flat_map g f xs)

pub flat_map-same : {X A : Type 0} (f g : X → List A) → ((x : X) → f x ≡ g x) → (xs : List X)
    → flat_map f xs ≡ flat_map g xs
flat_map-same f g h0 xs = grind arith

pub All-flat_map : {X A : Type 0} (P : A → Type 0) (f : X → List A) (xs : List X) → All (λ x. All P (f x)) xs
    → All P (flat_map f xs)
All-flat_map P f [] h = All-nil P
All-flat_map P f (x ∷ xs) h =
    All-append P (f x) (flat_map f xs) (All-head (λ y. All P (f y)) x xs h) (All-flat_map P f xs (All-tail (λ y. All P (f y)) x xs h))

kept_by : {X A : Type 0} (f : X → List A) (b : Bool) (x : X) (xs kept : List X) → (b ≡ false → f x ≡ [])
    → flat_map f xs ≡ flat_map f kept → flat_map f (x ∷ xs) ≡ flat_map f (cond b (x ∷ kept) kept)
kept_by f b x xs kept h0 h1 = grind arith

-- elements that come to nothing can be left out
pub flat_map-kept : {X A : Type 0} (f : X → List A) (keep : X → Bool) (xs : List X)
    → All (λ x. keep x ≡ false → f x ≡ []) xs → flat_map f xs ≡ flat_map f (filter keep xs)
flat_map-kept f keep [] h = refl
flat_map-kept f keep (x ∷ xs) h =
    kept_by f (keep x) x xs (filter keep xs) (All-head (λ y. keep y ≡ false → f y ≡ []) x xs h)
    (flat_map-kept f keep xs (All-tail (λ y. keep y ≡ false → f y ≡ []) x xs h))

found_by : {X : Type 0} (b : Bool) (x : X) (o : Option X) (xs : List X) → o ≡ slice_get xs 0
    → cond b (Some x) o ≡ slice_get (cond b (x ∷ xs) xs) 0
found_by b x o xs h0 = grind arith

-- the first that passes is the first of those that pass
pub find-filter : {X : Type 0} (test : X → Bool) (xs : List X) → find test xs ≡ slice_get (filter test xs) 0
find-filter test [] = refl
find-filter test (x ∷ xs) = found_by (test x) x (find test xs) (filter test xs) (find-filter test xs)

made_by : {X Y : Type 0} (made : X → Y) (b : Bool) (x : X) (o : Option X) (p : Option Y) → option_map made o ≡ p
    → option_map made (cond b (Some x) o) ≡ cond b (Some (made x)) p
made_by made b x o p h0 = grind arith

-- what is made of it
pub find-made : {X Y : Type 0} (made : X → Y) (test : Y → Bool) (xs : List X)
    → option_map made (find (λ x. test (made x)) xs) ≡ find test (map made xs)
find-made made test [] = refl
find-made made test (x ∷ xs) = grind (arith, made_by, find-made made test xs)

-- ---- lists by numbers, as by the lengths of words

-- the numbers from one on begin with it
pub numbers_from-next : (at end : ℕ) → at < end
    → numbers_from at (end - at) ≡ at ∷ numbers_from (at + 1) (end - (at + 1))
numbers_from-next at end lt = grind arith

pub numbers_from-end : (at end : ℕ) → end ≤ at → numbers_from at (end - at) ≡ []
numbers_from-end at end le = let none : end - at ≡ 0 = omega arith in ap (numbers_from at) none

-- lengths of which there is no word can be left out before all others
length_skipped : {X : Type 0} (f : ℕ → List X) (at end : ℕ) → f at ≡ []
    → flat_map f (numbers_from at (end - at)) ≡ flat_map f (numbers_from (at + 1) (end - (at + 1)))
length_skipped f at end none = grind arith

pub lengths_from : {X : Type 0} (f : ℕ → List X) (least end : ℕ) → ((n : ℕ) → n < least → f n ≡ [])
    → flat_map f (numbers_from 0 (end - 0)) ≡ flat_map f (numbers_from least (end - least))
lengths_from f zero end none = refl
lengths_from f (suc k) end none =
    let next : k + 1 ≡ suc k = omega arith in
    lengths_from f k end (λ n lt. none n (omega (arith, lt))) ∙ length_skipped f k end (none k (omega arith))
    ∙ ap (λ n. flat_map f (numbers_from n (end - n))) next

-- ---- words of some turns

-- a word of so many of these turns, told by their places
pub record IsWordOf (turns : List ℕ) (n : ℕ) (word : List ℕ) : Type 0 where
  pub places : List ℕ
  pub size : length places ≡ n
  pub below : All (λ k. k < length turns) places
  pub is : word ≡ pick turns places

IsWordOf-empty : (turns : List ℕ) → IsWordOf turns 0 []
IsWordOf-empty turns = record { places = []; size = refl; below = All-nil (λ k. k < length turns); is = refl }

-- one turn more
IsWordOf-turn : (turns : List ℕ) (n k t : ℕ) (word : List ℕ) → k < length turns → get_or turns k t ≡ t
    → IsWordOf turns n word → IsWordOf turns (suc n) (t ∷ word)
IsWordOf-turn turns n k t word lt e h = record {
  places = k ∷ h.places;
  size = ap suc h.size;
  below = All-cons (λ k. k < length turns) k h.places lt h.below;
  is = ap (λ u. u ∷ word) (sym e ∙ get_or_default turns k t 0 lt) ∙ ap (λ w. get_or turns k 0 ∷ w) h.is;
}

pub words_of-each : (turns : List ℕ) (n : ℕ) → All (IsWordOf turns n) (words_of turns n)
unfolding words_of
words_of-each turns zero = All-cons (IsWordOf turns 0) [] [] (IsWordOf-empty turns) (All-nil (IsWordOf turns 0))
words_of-each turns (suc n) =
    All-flat_map (IsWordOf turns (suc n)) (λ t. map (λ w. t ∷ w) (words_of turns n)) turns (λ k d lt.
    let t : ℕ = get_or turns k d in
    All-map (IsWordOf turns (suc n)) (λ w. t ∷ w) (words_of turns n)
    (All-weaker (IsWordOf turns n) (λ w. IsWordOf turns (suc n) (t ∷ w)) (λ w h. IsWordOf-turn turns n k t w lt (get_or_default turns k t d lt) h)
    (words_of turns n) (words_of-each turns n)))

-- the only word of no turn
pub words_of-none : (turns w : List ℕ) → Contains (words_of turns 0) w → w ≡ []
unfolding words_of
words_of-none turns w there = All-contains (λ v. v ≡ []) ([] ∷ []) w (All-cons (λ v. v ≡ []) [] [] refl (All-nil (λ v. v ≡ []))) there

-- ---- words behind a word

module _ (turns : List ℕ) (test : List ℕ → Bool) where
  -- no letter more
  pub words_behind-end : (word : List ℕ) → words_behind turns test word 0 ≡ cond (test word) (word ∷ []) []
  unfolding words_behind words_of
  words_behind-end word = ap (λ w. cond (test w) (w ∷ []) []) (append-nil word)

  -- one letter and then the others
  pub words_behind-turns : (word : List ℕ) (more : ℕ)
      → words_behind turns test word (suc more) ≡ flat_map (λ t. words_behind turns test (word ++ t ∷ []) more) turns
  unfolding words_behind words_of
  words_behind-turns word more =
      let ws = words_of turns more in
      ap (filter test) (map-flat_map (λ v. word ++ v) (λ t. map (λ w. t ∷ w) ws) turns)
      ∙ filter-flat_map test (λ t. map (λ v. word ++ v) (map (λ w. t ∷ w) ws)) turns
      ∙ flat_map-same (λ t. filter test (map (λ v. word ++ v) (map (λ w. t ∷ w) ws))) (λ t. filter test (map (λ v. (word ++ t ∷ []) ++ v) ws))
      (λ t. ap (filter test) (shifted t ws)) turns
    where
      shifted : (t : ℕ) (ws : List (List ℕ))
          → map (λ v. word ++ v) (map (λ w. t ∷ w) ws) ≡ map (λ v. (word ++ t ∷ []) ++ v) ws
      shifted t [] = refl
      shifted t (w ∷ ws) = ap (λ v. v ∷ map (λ v. word ++ v) (map (λ w. t ∷ w) ws)) (sym (append_assoc word (t ∷ []) w)) ∙ ap (λ vs. ((word ++ t ∷ []) ++ w) ∷ vs) (shifted t ws)

  -- none where none passes
  pub words_behind-none : (word : List ℕ) (more : ℕ)
      → ((v : List ℕ) → Contains (words_of turns more) v → test (word ++ v) ≡ false)
      → words_behind turns test word more ≡ []
  unfolding words_behind
  words_behind-none word more h =
      filter-none test (map (λ v. word ++ v) (words_of turns more))
      (All-map (λ w. test w ≡ false) (λ v. word ++ v) (words_of turns more)
      (All-weaker (Contains (words_of turns more)) (λ v. test (word ++ v) ≡ false) h (words_of turns more) (All-contains_itself (words_of turns more))))

  -- all words of at most so many letters, by their lengths
  pub words_behind-within : (word : List ℕ) (most : ℕ)
      → filter test (map (λ v. word ++ v) (words_within turns most)) ≡ flat_map (words_behind turns test word) (numbers_from 0 (most + 1))
  unfolding words_within words_behind
  words_behind-within word most = grind (arith, map-flat_map, filter-flat_map)

-- a turn that is written, and taken away again
pub pushed_word : (now before word : List ℕ) (turn t : ℕ) → now ≡ before ++ turn ∷ [] → before ≡ word → turn ≡ t
    → now ≡ word ++ t ∷ []
pushed_word now before word turn t e same is = e ∙ ap (λ w. w ++ turn ∷ []) same ∙ ap (λ u. word ++ u ∷ []) is

pub popped_word : (now before word : List ℕ) (t : ℕ) → now ≡ take (length before - 1) before → before ≡ word ++ t ∷ []
    → now ≡ word
popped_word now before word t e is = grind (arith, length-append word (t ∷ []), take-append_seam word (t ∷ []))
