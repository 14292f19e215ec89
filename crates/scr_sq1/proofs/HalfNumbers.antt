-- The numbers of halves with so many corners, and so of shapes.
use Rattle.std.proofs.lemmas.Grind.{common_steps}
use Rattle.std.proofs.Common.{rules}
use Rattle.std.proofs.Common.{◌≡◌, ℕ, zero, suc, ◌+◌, ◌-◌, ◌<◌, ◌≤◌, inl, inr, IsTrue, cond, List, [], ◌∷◌, ◌++◌, map, length, take, slice_index, refl, sym, ap, ◌∙◌, subst, arith}
use Rattle.std.proofs.lemmas.Bool.Decides.{nat_tests}
use Rattle.std.specs.Prelude.{◌==◌, nat_le, nat_lt, filter, flat_map}
use Rattle.std.specs.List.{list_all, position_or_len}
use Rattle.std.specs.Str.{bytes_eq}
use Rattle.std.proofs.lemmas.Bool.{cases_lt, lt-ltb, le-ltb, le-leb, lt-leb, eq-eqb, ne_eqb, ltb-true, cond-true, cond-false}
use Rattle.std.proofs.lemmas.List.{length-append, length-map, take_all}
use Rattle.std.proofs.lemmas.List.Elements.{All-nil, All-cons, All-head, All-tail, filter-append}
use Rattle.scr_combinatorics.specs.Lists.{total, numbers_from, pick, ComesBefore}
use Rattle.scr_combinatorics.specs.Numbering.{IsOneToOne}
use Rattle.scr_combinatorics.specs.Words.{words_of}
use Rattle.scr_notation.proofs.Below.{All-from_test}
use Rattle.scr_sq1.specs.Shapes.{half_words, corner_counts, AreHalves, IsShape, ways_after, shape_number, run_of, halves_at, shape_at, shape_count}
use Rattle.scr_sq1.proofs.HalfWords.{corner_count}

-- ---- runs of so many numbers

module _ (f : ℕ → ℕ) where
  -- so many runs and the next one
  pub total-run : (ks : List ℕ) (i : ℕ) → i < length ks
      → total (map f (take i ks)) + f (slice_index ks i) ≤ total (map f ks)
  total-run [] i lt = absurd (omega arith)
  total-run (k ∷ ks) zero lt = omega arith
  total-run (k ∷ ks) (suc i) lt = omega (arith, total-run ks i (omega arith))

  -- of two runs, the one behind begins no sooner than the one before ends
  pub total-runs : (ks : List ℕ) (i j : ℕ) → i < j → j ≤ length ks
      → total (map f (take i ks)) + f (slice_index ks i) ≤ total (map f (take j ks))
  total-runs (k ∷ ks) zero (suc j) lt le = omega arith
  total-runs (k ∷ ks) (suc i) (suc j) lt le = omega (arith, total-runs ks i j (omega arith) (omega arith))
  total-runs _ i j lt le = absurd (omega arith)

  pub run_of-here : (k : ℕ) (ks : List ℕ) (r : ℕ) → r < f k → (let p : ℕ × ℕ = (0, r) in run_of f (k ∷ ks) r ≡ p)
  run_of-here k ks r lt = cond-true (nat_lt r (f k)) _ _ (lt-ltb r (f k) lt)

  pub run_of-later : (k : ℕ) (ks : List ℕ) (r : ℕ) → f k ≤ r
      → (let p : ℕ × ℕ = (suc (run_of f ks (r - f k)).0, (run_of f ks (r - f k)).1) in run_of f (k ∷ ks) r ≡ p)
  run_of-later k ks r le = cond-false (nat_lt r (f k)) _ _ (le-ltb r (f k) le)

  -- a number falls into a run
  pub record FallsInto (ks : List ℕ) (r : ℕ) (p : ℕ × ℕ) : Type 0 where
    pub run : p.0 < length ks
    pub inside : p.1 < f (slice_index ks p.0)
    pub whole : total (map f (take p.0 ks)) + p.1 ≡ r

  pub run_of-falls : (ks : List ℕ) (r : ℕ) → r < total (map f ks) → FallsInto ks r (run_of f ks r)
  run_of-falls [] r lt = absurd (omega arith)
  run_of-falls (k ∷ ks) r lt = grind (arith, nat_tests, run_of-here, run_of-later, run_of-falls ks (r - f k))

  -- and where it falls is where it was put
  pub run_of-put : (ks : List ℕ) (i r : ℕ) → i < length ks → r < f (slice_index ks i)
      → (let p : ℕ × ℕ = (i, r) in run_of f ks (total (map f (take i ks)) + r) ≡ p)
  run_of-put [] i r lt inside = absurd (omega arith)
  run_of-put (k ∷ ks) zero r lt inside = ap (run_of f (k ∷ ks)) {x = 0 + r} {y = r} (omega arith) ∙ run_of-here k ks r inside
  run_of-put (k ∷ ks) (suc i) r lt inside = search (arith, rules, run_of-later, run_of-put ks i r (omega arith) inside)

  -- a sum with one run more
  pub total-more : (ks : List ℕ) (i : ℕ) → i < length ks
      → total (map f (take (i + 1) ks)) ≡ total (map f (take i ks)) + f (slice_index ks i)
  total-more [] i lt = absurd (omega arith)
  total-more (k ∷ ks) zero lt = omega arith
  total-more (k ∷ ks) (suc i) lt =
      omega (arith, total-more ks i (omega arith), ap (λ n. total (map f (take n (k ∷ ks)))) {x = suc i + 1} {y = suc (i + 1)} (omega arith))

-- ---- halves with so many corners

-- The number of some halves among all lists of as many with c corners, from 0: for each lower first half, all lists
-- that begin with it come before.
unfoldable pub halves_number : ℕ → List ℕ → ℕ
halves_number c [] = 0
halves_number c (h ∷ hs) =
    total (map (ways_after (length hs) c) (take h corner_counts)) + halves_number (c - slice_index corner_counts h) hs

pub length-corner_counts : length corner_counts ≡ 13
unfolding half_words corner_counts
length-corner_counts = refl

pub corner_count-at : (h : ℕ) → slice_index corner_counts h ≡ corner_count h
corner_count-at h = refl

-- a first half and those behind it
pub record StartsWith (n c h : ℕ) (hs : List ℕ) : Type 0 where
  pub below : h < 13
  pub few : corner_count h ≤ c
  pub others : AreHalves n (c - corner_count h) hs

pub StartsWith-halves : (n c h : ℕ) (hs : List ℕ) → AreHalves (suc n) c (h ∷ hs) → StartsWith n c h hs
StartsWith-halves n c h hs a = search (arith, rules, All-head, All-tail)

pub AreHalves-starts : (n c h : ℕ) (hs : List ℕ) → StartsWith n c h hs → AreHalves (suc n) c (h ∷ hs)
AreHalves-starts n c h hs s = grind (arith, nat_tests, All-cons)

-- in how many ways n halves can have c corners in all
abbrev pub ways_to_have : ℕ → ℕ → ℕ
ways_to_have n c = ways_after n c 0

ways-none : (c : ℕ) → ways_to_have zero c ≡ cond (c == 0) 1 0
unfolding ways_after
ways-none c = refl

pub ways-suc : (n c : ℕ) → ways_to_have (suc n) c ≡ total (map (ways_after n c) corner_counts)
unfolding ways_after
ways-suc n c = grind (arith, nat_tests, le-leb)

pub ways_after-few : (n c k : ℕ) → k ≤ c → ways_after n c k ≡ ways_to_have n (c - k)
unfolding ways_after
ways_after-few zero c k le = grind (arith, nat_tests, eq-eqb, ne_eqb)
ways_after-few (suc n) c k le = search (arith, rules, cond-true, le-leb, ways-suc)

pub ways_after-many : (n c k : ℕ) → c < k → ways_after n c k ≡ 0
unfolding ways_after
ways_after-many zero c k lt = cond-false {A = ℕ} (c == k) 1 0 (ne_eqb c k (λ same. omega arith))
ways_after-many (suc n) c k lt = cond-false (nat_le k c) (total (map (ways_after n (c - k)) corner_counts)) 0 (lt-leb k c lt)

-- the numbers before those of lists that begin with a half
abbrev pub numbers_before : ℕ → ℕ → ℕ → ℕ
numbers_before n c h = total (map (ways_after n c) (take h corner_counts))

pub halves_number-cons : (n c h : ℕ) (hs : List ℕ) → length hs ≡ n
    → halves_number c (h ∷ hs) ≡ numbers_before n c h + halves_number (c - corner_count h) hs
unfolding halves_number
halves_number-cons n c h hs e = ap (λ m. numbers_before m c h + halves_number (c - corner_count h) hs) e

-- each first half has its run of numbers
run_within : (n c h : ℕ) → h < 13 → corner_count h ≤ c
    → numbers_before n c h + ways_to_have n (c - corner_count h) ≤ ways_to_have (suc n) c
run_within n c h lt few =
    grind (arith, nat_tests, ways-suc, ways_after-few, corner_count, corner_count-at, total-run, length-corner_counts)

pub halves_number-lt : (n c : ℕ) (hs : List ℕ) → AreHalves n c hs → halves_number c hs < ways_to_have n c
unfolding halves_number
halves_number-lt zero c [] a = omega (arith, ways-none c, cond-true {A = ℕ} (c == 0) 1 0 (eq-eqb c 0 (sym a.corners)))
halves_number-lt (suc n) c (h ∷ hs) a =
    let s = StartsWith-halves n c h hs a in grind (arith, nat_tests, halves_number-cons, corner_count, run_within, halves_number-lt n (c - corner_count h) hs s.others)
halves_number-lt _ c _ a = absurd (omega (arith, a.size))

-- ---- the halves of a number

-- the first half of a number, and what is left for the others
pub record FirstHalf (n c r : ℕ) : Type 0 where
  pub half : ℕ
  pub rest : ℕ
  pub is : (let p : ℕ × ℕ = (half, rest) in run_of (ways_after n c) corner_counts r ≡ p)
  pub below : half < 13
  pub few : corner_count half ≤ c
  pub inside : rest < ways_to_have n (c - corner_count half)
  pub whole : numbers_before n c half + rest ≡ r

pub first_half : (n c r : ℕ) → r < ways_to_have (suc n) c → FirstHalf n c r
first_half n c r lt =
    let f = ways_after n c in
    let falls = run_of-falls f corner_counts r (omega (arith, ways-suc n c)) in
    let h : ℕ = (run_of f corner_counts r).0 in
    let rest : ℕ = (run_of f corner_counts r).1 in
    let inside : rest < f (corner_count h) = omega (arith, falls.inside, ap f (corner_count-at h)) in
    let few : corner_count h ≤ c =
    elim (cases_lt c (corner_count h)) [ inl many ↦ absurd (omega (arith, ways_after-many n c (corner_count h) many)) | inr le ↦ le ] in grind (arith, nat_tests, length-corner_counts, ways_after-few, corner_count)

pub halves_at-suc : (n c r : ℕ) (f : FirstHalf n c r)
    → halves_at (suc n) c r ≡ f.half ∷ halves_at n (c - corner_count f.half) f.rest
unfolding halves_at
halves_at-suc n c r f = ap (λ p. p.0 ∷ halves_at n (c - corner_count p.0) p.1) f.is

pub record HasNumber (n c r : ℕ) (hs : List ℕ) : Type 0 where
  pub halves : AreHalves n c hs
  pub number : halves_number c hs ≡ r

pub HasNumber-at : (n c r : ℕ) → r < ways_to_have n c → HasNumber n c r (halves_at n c r)
unfolding halves_number halves_at
HasNumber-at zero c r lt = grind (arith, nat_tests, ways-none, ne_eqb, All-nil, eq-eqb)
HasNumber-at (suc n) c r lt =
    let f = first_half n c r lt in
    let rest = HasNumber-at n (c - corner_count f.half) f.rest f.inside in
    let others : List ℕ = halves_at n (c - corner_count f.half) f.rest in grind (arith, nat_tests, halves_at-suc, AreHalves-starts, halves_number-cons)

pub halves_at-number : (n c : ℕ) (hs : List ℕ) → AreHalves n c hs → halves_at n c (halves_number c hs) ≡ hs
unfolding halves_at
halves_at-number zero c [] a = refl
halves_at-number (suc n) c (h ∷ hs) a =
    let s = StartsWith-halves n c h hs a in
    let rest : ℕ = halves_number (c - corner_count h) hs in
    let f = ways_after n c in
    let inside : rest < f (slice_index corner_counts h) = omega (arith, halves_number-lt, corner_count, ways_after-few, corner_count-at) in
    ap (halves_at (suc n) c) (halves_number-cons n c h hs s.others.size)
    ∙ ap (λ p. p.0 ∷ halves_at n (c - corner_count p.0) p.1) (run_of-put f corner_counts h rest (omega (arith, length-corner_counts, s.below)) inside)
    ∙ ap (λ xs. h ∷ xs) (halves_at-number n (c - corner_count h) hs s.others)
halves_at-number _ c _ a = absurd (omega (arith, a.size))

-- ---- all lists of halves, in dictionary order

abbrev with_corners : ℕ → List (List ℕ) → List (List ℕ)
with_corners c xss = filter (λ gs. total (pick corner_counts gs) == c) xss

abbrev place_in : List ℕ → List (List ℕ) → ℕ
place_in hs xss = position_or_len (bytes_eq hs) xss

-- those of the lists behind a first half that have c corners with it
abbrev with_first : ℕ → ℕ → List (List ℕ) → List (List ℕ)
with_first c h xss = with_corners c (map (λ hs. h ∷ hs) xss)

with_first-few : (c h : ℕ) (xss : List (List ℕ)) → corner_count h ≤ c
    → with_first c h xss ≡ map (λ hs. h ∷ hs) (with_corners (c - corner_count h) xss)
with_first-few c h [] few = refl
with_first-few c h (gs ∷ xss) few = grind (arith, nat_tests, eq-eqb, ne_eqb, with_first-few c h xss few)

with_first-many : (c h : ℕ) (xss : List (List ℕ)) → c < corner_count h → with_first c h xss ≡ []
with_first-many c h [] many = refl
with_first-many c h (gs ∷ xss) many = grind (arith, nat_tests, corner_count, ne_eqb, with_first-many c h xss many)

with_corners-flat : (c : ℕ) (xss : List (List ℕ)) (ks : List ℕ)
    → with_corners c (flat_map (λ h. map (λ hs. h ∷ hs) xss) ks) ≡ flat_map (λ h. with_first c h xss) ks
with_corners-flat c xss [] = refl
with_corners-flat c xss (k ∷ ks) = grind (arith, nat_tests, filter-append, with_corners-flat c xss ks)

-- the place of a list behind others that are not the same, and where it stands before them
place_of_same : (h : ℕ) (hs : List ℕ) (xss : List (List ℕ))
    → place_in (h ∷ hs) (map (λ hs. h ∷ hs) xss) ≡ place_in hs xss
place_of_same h hs [] = refl
place_of_same h hs (gs ∷ xss) = grind (arith, nat_tests, eq-eqb, place_of_same h hs xss)

place_stays : (x : List ℕ) (xs ys : List (List ℕ)) → place_in x xs < length xs → place_in x (xs ++ ys) ≡ place_in x xs
place_stays x [] ys lt = absurd (omega arith)
place_stays x (y ∷ xs) ys lt = grind (arith, nat_tests, place_stays x xs ys)

place_behind : (c g h : ℕ) (hs : List ℕ) (xss ys : List (List ℕ)) → g < h
    → place_in (h ∷ hs) (with_first c g xss ++ ys) ≡ length (with_first c g xss) + place_in (h ∷ hs) ys
place_behind c g h hs [] ys lt = omega arith
place_behind c g h hs (gs ∷ xss) ys lt = grind (arith, nat_tests, ne_eqb, place_behind c g h hs xss ys lt)

-- from a first half on
module _ (c : ℕ) (xss : List (List ℕ)) (f : ℕ → ℕ) (sizes : (h : ℕ) → length (with_first c h xss) ≡ f (corner_count h)) where
  before : ℕ → ℕ
  before s = total (map f (take s corner_counts))

  before-more : (s : ℕ) → s < 13 → before (suc s) ≡ before s + f (corner_count s)
  unfolding before
  before-more s lt = grind (arith, nat_tests, common_steps, total-more, length-corner_counts)

  length_from : (m s : ℕ) → s + m ≡ 13
      → before s + length (flat_map (λ h. with_first c h xss) (numbers_from s m)) ≡ before 13
  length_from zero s e = omega (arith, ap before {x = s} {y = 13} (omega arith))
  length_from (suc m) s e = grind (arith, nat_tests, length-append, before-more, length_from m (suc s) (omega arith))

  place_from : (h : ℕ) (hs : List ℕ) → h < 13 → place_in (h ∷ hs) (with_first c h xss) < length (with_first c h xss)
      → (m s : ℕ) → s + m ≡ 13 → s ≤ h
      → before s + place_in (h ∷ hs) (flat_map (λ g. with_first c g xss) (numbers_from s m))
      ≡ before h + place_in (h ∷ hs) (with_first c h xss)
  place_from h hs lt found zero s e le = absurd (omega arith)
  place_from h hs lt found (suc m) s e le =
      let rest : List (List ℕ) = flat_map (λ g. with_first c g xss) (numbers_from (suc s) m) in
      elim (cases_lt s h) [
        | inl lower ↦ (omega (arith, place_behind, before-more, place_from h hs lt found m (suc s) (omega arith) (omega arith)))
        | inr same ↦
            ap (λ i. before i + place_in (h ∷ hs) (with_first c i xss ++ rest)) {x = s} {y = h} (omega arith)
            ∙ ap (λ p. before h + p) (place_stays (h ∷ hs) (with_first c h xss) rest found)
      ]

listed_sizes : (n : ℕ) → ((c : ℕ) → length (with_corners c (words_of (numbers_from 0 13) n)) ≡ ways_to_have n c) → (c h : ℕ)
    → length (with_first c h (words_of (numbers_from 0 13) n)) ≡ ways_after n c (corner_count h)
listed_sizes n sizes c h =
    grind (arith, nat_tests, corner_count, with_first-many, ways_after-many, with_first-few, length-map, ways_after-few)

-- how many lists have c corners
pub listed-length : (n c : ℕ) → length (with_corners c (words_of (numbers_from 0 13) n)) ≡ ways_to_have n c
unfolding words_of before
listed-length zero c = grind (arith, nat_tests, eq-eqb, ways-none, ne_eqb)
listed-length (suc n) c =
    let xss : List (List ℕ) = words_of (numbers_from 0 13) n in
    let whole : length (flat_map (λ h. with_first c h xss) (numbers_from 0 13)) ≡ total (map (ways_after n c) (take 13 corner_counts)) =
    omega (arith, length_from c xss (ways_after n c) (listed_sizes n (listed-length n) c) 13 0 refl) in
    ap length (with_corners-flat c xss (numbers_from 0 13)) ∙ whole
    ∙ ap (λ ks. total (map (ways_after n c) ks)) (take_all 13 corner_counts (omega (arith, length-corner_counts)))
    ∙ sym (ways-suc n c)

listed-place : (n c : ℕ) (hs : List ℕ) → AreHalves n c hs
    → place_in hs (with_corners c (words_of (numbers_from 0 13) n)) ≡ halves_number c hs
unfolding words_of halves_number before
listed-place zero c [] a = ap (place_in []) (cond-true (0 == c) ([] ∷ []) [] (eq-eqb 0 c a.corners))
listed-place (suc n) c (h ∷ hs) a =
    let s = StartsWith-halves n c h hs a in
    let k : ℕ = corner_count h in
    let xss : List (List ℕ) = words_of (numbers_from 0 13) n in
    let sizes = listed_sizes n (listed-length n) c in
    let here : place_in (h ∷ hs) (with_first c h xss) ≡ halves_number (c - k) hs = grind (arith, nat_tests, with_first-few, place_of_same, listed-place n (c - k) hs s.others) in
    let found : place_in (h ∷ hs) (with_first c h xss) < length (with_first c h xss) =
    omega (arith, here, halves_number-lt n (c - k) hs s.others, sizes h, ways_after-few n c k s.few) in
    let whole : place_in (h ∷ hs) (flat_map (λ g. with_first c g xss) (numbers_from 0 13))
    ≡ numbers_before n c h + place_in (h ∷ hs) (with_first c h xss) =
    omega (arith, place_from c xss (ways_after n c) sizes h hs s.below found 13 0 refl (omega arith)) in
    ap (place_in (h ∷ hs)) (with_corners-flat c xss (numbers_from 0 13)) ∙ whole
    ∙ ap (λ p. numbers_before n c h + p) here
    ∙ sym (halves_number-cons n c h hs s.others.size)
listed-place _ c _ a = absurd (omega (arith, a.size))

-- ---- shapes

pub shape_number-halves : (hs : List ℕ) → IsShape hs → shape_number hs ≡ halves_number 8 hs
unfolding shape_number
shape_number-halves hs shape = listed-place 4 8 hs shape

-- the number of a shape whose halves are known
pub shape_number-known : (hs : List ℕ) (number : ℕ) → length hs ≡ 4 → IsTrue (list_all (λ h. nat_lt h 13) hs)
    → total (pick corner_counts hs) ≡ 8 → halves_number 8 hs ≡ number → shape_number hs ≡ number
shape_number-known hs number size below corners is = search (arith, rules, shape_number-halves, All-from_test, ltb-true)

pub ways_of_shapes : ways_to_have 4 8 ≡ 3678
unfolding half_words corner_counts ways_after
ways_of_shapes = refl

-- shapes are numbered by the numbers below their count
pub shapes_one_to_one : IsOneToOne shape_count shape_at shape_number IsShape
unfolding shape_at
shapes_one_to_one = record {
  valid = λ r lt. (HasNumber-at 4 8 r (omega (arith, ways_of_shapes))).halves;
  below = λ hs a. omega (arith, shape_number-halves hs a, halves_number-lt 4 8 hs a, ways_of_shapes);
  number_again = λ r lt. grind (arith, nat_tests, HasNumber-at, ways_of_shapes, shape_number-halves);
  state_again = λ hs a. ap (halves_at 4 8) (shape_number-halves hs a) ∙ halves_at-number 4 8 hs a;
}

pub halves_number-order : (n c : ℕ) (hs gs : List ℕ) → AreHalves n c hs → AreHalves n c gs → ComesBefore hs gs
    → halves_number c hs < halves_number c gs
halves_number-order zero c [] gs a b before = absurd before
halves_number-order zero c (h ∷ hs) gs a b before = absurd (omega (arith, a.size))
halves_number-order (suc n) c [] gs a b before = absurd before
halves_number-order (suc n) c (h ∷ hs) [] a b before = absurd before
halves_number-order (suc n) c (h ∷ hs) (g ∷ gs) a b (inl lt) =
    let s = StartsWith-halves n c h hs a in
    let t = StartsWith-halves n c g gs b in
    omega (
      arith,
      halves_number-cons n c h hs s.others.size,
      halves_number-cons n c g gs t.others.size,
      halves_number-lt n (c - corner_count h) hs s.others,
      ways_after-few n c (corner_count h) s.few,
      ap (ways_after n c) (corner_count-at h),
      total-runs (ways_after n c) corner_counts h g lt (omega (arith, length-corner_counts, t.below)),
    )
halves_number-order (suc n) c (h ∷ hs) (g ∷ gs) a b (inr both) =
    let s = StartsWith-halves n c h hs a in
    let t = StartsWith-halves n c g gs b in
    let hs_again : AreHalves n (c - corner_count g) hs = subst (λ x. AreHalves n (c - corner_count x) hs) both.0 s.others in grind (arith, nat_tests, halves_number-cons, corner_count, halves_number-order n (c - corner_count g) hs gs hs_again t.others both.1)

pub shape_number-order : (hs gs : List ℕ) → IsShape hs → IsShape gs → ComesBefore hs gs
    → shape_number hs < shape_number gs
shape_number-order hs gs a b before = search (arith, rules, shape_number-halves, halves_number-order, before)
