-- Each kind of step keeps the rule of the claim word.
use Rattle.std.proofs.Common.{◌≡◌, ℕ, zero, suc, ◌+◌, ◌-◌, ◌%◌, ◌^◌, ◌<◌, ◌≤◌, List, [], ◌∷◌, ◌++◌, length}
use Rattle.std.proofs.Common.{get_or, set, sym, refl, ap, ◌∙◌, subst, ⊎_elim, arith, length-set, get_or-set_same}
use Rattle.std.specs.Prelude.{slice_index, All}
use Rattle.std.proofs.lemmas.List.Elements.{All-head, All-tail}
use Rattle.std.proofs.lemmas.Bool.Decides.{nat_tests}
use mathlib.Core.Option.{none, some, some-injective, some-ne-none}
use lib.ListN.{get_elem?}
use Rattle.atomic_table.specs.Table.{Me, step, keeps, Allows, Splits, Joins}
use Rattle.atomic_table.proofs.Lists.{at_set, at_snoc, set_again, set_else}
use Rattle.scr_workers.specs.declared.rule.Claims.{Claims}
use Rattle.scr_workers.specs.Rule.{claims, weigh, weigh_below, from, over_views, late, IsKept, Holds, HasClaimed}
use Rattle.scr_workers.specs.Rule.{HasLooked, rest_of, part_of, joined, spent}

-- lists of numbers

pub weigh-append : (h : ℕ → ℕ) (xs ys : List ℕ) → weigh h (xs ++ ys) ≡ weigh h xs + weigh h ys
weigh-append h [] ys = omega arith
weigh-append h (x ∷ xs) ys = let r = weigh-append h xs ys in omega arith

-- no fewer than n numbers below n are below m, or m and more
pub from_below : (m n : ℕ) → n ≤ weigh_below (from m) n + m
from_below m zero = omega arith
from_below m (suc n) = let r = from_below m n in grind (arith, nat_tests)

pub weigh-length : (xs : List ℕ) → weigh (λ x. 1) xs ≡ length xs
weigh-length [] = refl
weigh-length (x ∷ xs) = let r = weigh-length xs in omega arith

pub weigh_below-one : (n : ℕ) → weigh_below (λ x. 1) n ≡ n
weigh_below-one zero = refl
weigh_below-one (suc n) = let r = weigh_below-one n in omega arith

pub not_from : (m x : ℕ) → x < m → from m x ≡ 0
not_from m x below = grind (arith, nat_tests)

pub from_one : (m x : ℕ) → from m x ≤ 1
from_one m x = grind (arith, nat_tests)

-- lists of views

total_set : (f : Claims → ℕ) (views : List Claims) (seat : ℕ) (v w : Claims) → get_elem? views seat ≡ some v
    → over_views f (set views seat w) + f v ≡ over_views f views + f w
total_set f [] seat v w at = absurd (some-ne-none v (sym at))
total_set f (x ∷ xs) zero v w at = let is : f x ≡ f v = ap f (some-injective x v at) in omega arith
total_set f (x ∷ xs) (suc seat) v w at = let r = total_set f xs seat v w at in omega arith

total_snoc : (f : Claims → ℕ) (views : List Claims) (v : Claims)
    → over_views f (views ++ v ∷ []) ≡ over_views f views + f v
total_snoc f [] v = omega arith
total_snoc f (x ∷ xs) v = let r = total_snoc f xs v in omega arith

total_at : (f : Claims → ℕ) (views : List Claims) (seat : ℕ) (v : Claims) → get_elem? views seat ≡ some v
    → f v ≤ over_views f views
total_at f [] seat v at = absurd (some-ne-none v (sym at))
total_at f (x ∷ xs) zero v at = let is : f x ≡ f v = ap f (some-injective x v at) in omega arith
total_at f (x ∷ xs) (suc seat) v at = let r = total_at f xs seat v at in omega arith

total_most : (f g : Claims → ℕ) (views : List Claims)
    → ((seat : ℕ) (v : Claims) → get_elem? views seat ≡ some v → f v ≤ g v) → over_views f views ≤ over_views g views
total_most f g [] most = omega arith
total_most f g (x ∷ xs) most =
    let here : f x ≤ g x = most 0 x refl in
    let r = total_most f g xs (λ seat. most (suc seat)) in
    omega arith

-- the word has at most 64 numbers of 2^32 and more below it
word_most : (words : List ℕ) (views : List Claims) → IsKept words views → slice_index words 0 ≤ 4294967296 + 64
word_most words views kept =
    let below = from_below 4294967296 (slice_index words 0) in
    let once = kept.once (from 4294967296) in
    let most = total_most late (λ v. v.weight) views kept.late_most in
    let weights = kept.weights in
    omega arith

set_same : (xs : List ℕ) → length xs ≡ 1 → set xs 0 (get_or xs 0 0) ≡ xs
set_same [] e = absurd (omega arith)
set_same (x ∷ xs) e = refl

-- what is so of each view
abbrev EachView : (Claims → Type 0) → List Claims → Type 0
EachView P views = (seat : ℕ) (v : Claims) → get_elem? views seat ≡ some v → P v

abbrev IsEarly : Claims → Type 0
IsEarly v = late v ≤ v.weight

abbrev IsIdle : Claims → Type 0
IsIdle v = v.weight ≡ 0 → v.list ≡ []

-- stays so where one of which it is so comes in a view's place, or behind the others
EachView-set : (P : Claims → Type 0) (views : List Claims) (id : ℕ) (w : Claims) → EachView P views → P w
    → EachView P (set views id w)
EachView-set P views id w each own seat u e = grind (arith, ⊎_elim, at_set)

EachView-snoc : (P : Claims → Type 0) (views : List Claims) (w : Claims) → EachView P views → P w
    → EachView P (views ++ w ∷ [])
EachView-snoc P views w each own seat u e = grind (arith, ⊎_elim, at_snoc)

-- a claim: the old word goes to the end of the list
pub claims_keep : (slots id : ℕ) (m : Me (Unit {0}) Claims) → 1 ≤ m.0.weight → weigh (from 4294967296) m.0.list ≡ 0
    → Allows Holds slots id m 0 (λ n. (n + 1) % 2 ^ 64) (HasClaimed (step slots 0 1 0 none) m)
claims_keep slots id m some_weight early s kept _ at small =
    let weight : ℕ = m.0.weight in
    let list : List ℕ = m.0.list in
    let word : ℕ = slice_index s.words 0 in
    let most = word_most s.words s.views kept in
    let new : ℕ = (word + 1) % 18446744073709551616 in
    let new_is : new ≡ suc word = omega arith in
    let w : Claims = claims weight (list ++ word ∷ []) in
    let v : Claims = claims weight list in
    let wide = kept.one_word in
    let found : slice_index (set s.words 0 new) 0 ≡ suc word = get_or-set_same s.words 0 new 0 (omega arith) ∙ new_is in
    let len = total_at (λ u. weigh (λ x. 1) u.list) s.views id v at in
    let all = kept.once (λ x. 1) in (
      w,
      keeps,
      tt,
      record {
        one_word = length-set s.words 0 new ∙ kept.one_word;
        once = λ h. let f : Claims → ℕ = λ u. weigh h u.list in
            let sum = total_set f s.views id v w at in
            let more = weigh-append h list (word ∷ []) in
            let before = kept.once h in
            let goal : over_views f (set s.views id w) ≡ weigh_below h (suc word) = omega arith in
            subst (λ k. over_views f (set s.views id w) ≡ weigh_below h k) (sym found) goal;
        weights = let sum = total_set (λ u. u.weight) s.views id v w at in let k = kept.weights in omega arith;
        late_most = EachView-set IsEarly s.views id w kept.late_most
            (let more = weigh-append (from 4294967296) list (word ∷ []) in
            let one = from_one 4294967296 word in omega arith);
        idle = EachView-set IsIdle s.views id w kept.idle (λ empty. absurd (omega arith));
      },
      (refl, omega (arith, weigh-length list, weigh_below-one word)),
    )

-- a seat with no claim is cut in two
pub cut_keeps : (id weight : ℕ) → 2 ≤ weight → Splits Holds id (claims weight []) (claims (weight - 1) []) (claims 1 [])
cut_keeps id weight two s kept at =
    let v : Claims = claims weight [] in
    let w : Claims = claims (weight - 1) [] in
    let part : Claims = claims 1 [] in record {
      one_word = kept.one_word;
      once = λ h. let f : Claims → ℕ = λ u. weigh h u.list in
          let sum = total_set f s.views id v w at in
          let more = total_snoc f (set s.views id w) part in
          let before = kept.once h in omega arith;
      weights = let f : Claims → ℕ = λ u. u.weight in
          let sum = total_set f s.views id v w at in
          let more = total_snoc f (set s.views id w) part in
          let before = kept.weights in omega arith;
      late_most = EachView-snoc IsEarly _ part (EachView-set IsEarly s.views id w kept.late_most (omega arith))
          (omega arith);
      idle = EachView-snoc IsIdle _ part (EachView-set IsIdle s.views id w kept.idle (λ _. refl)) (λ _. refl);
    }

-- two seats become one
pub join_keeps : (id other : ℕ) (v w : Claims) → Joins Holds id v other w (joined v w) spent
join_keeps id other v w s kept at apart there =
    let both : Claims = joined v w in
    let first : List Claims = set s.views id both in
    let there' : get_elem? s.views other ≡ some w = sym (set_else s.views id other both apart) ∙ there in
    let late_v = kept.late_most id v at in
    let late_w = kept.late_most other w there' in record {
      one_word = kept.one_word;
      once = λ h. let f : Claims → ℕ = λ u. weigh h u.list in
          let sum = total_set f s.views id v both at in
          let sum' = total_set f first other w spent there in
          let more = weigh-append h v.list w.list in
          let before = kept.once h in omega arith;
      weights = let f : Claims → ℕ = λ u. u.weight in
          let sum = total_set f s.views id v both at in
          let sum' = total_set f first other w spent there in
          let before = kept.weights in omega arith;
      late_most = EachView-set IsEarly first other spent
          (EachView-set IsEarly s.views id both kept.late_most
          (let more = weigh-append (from 4294967296) v.list w.list in omega arith)) (omega arith);
      idle = EachView-set IsIdle first other spent
          (EachView-set IsIdle s.views id both kept.idle
          (λ empty. let a : v.list ≡ [] = kept.idle id v at (omega arith) in
          let b : w.list ≡ [] = kept.idle other w there' (omega arith) in
          λ i. a i ++ b i)) (λ _. refl);
    }

all_idle : (f : Claims → ℕ) (views : List Claims) → over_views (λ u. u.weight) views ≡ 0
    → ((k : ℕ) (u : Claims) → get_elem? views k ≡ some u → u.weight ≡ 0 → f u ≡ 0) → over_views f views ≡ 0
all_idle f [] empty idle = refl
all_idle f (x ∷ xs) empty idle =
    let here : f x ≡ 0 = idle 0 x refl (omega arith) in
    let r = all_idle f xs (omega arith) (λ k. idle (suc k)) in
    omega arith

-- where one view has the whole weight, f of it is all, if f is nothing of a view with no weight
alone : (f : Claims → ℕ) (views : List Claims) (seat : ℕ) (v : Claims) → get_elem? views seat ≡ some v
    → over_views (λ u. u.weight) views ≡ v.weight
    → ((k : ℕ) (u : Claims) → get_elem? views k ≡ some u → u.weight ≡ 0 → f u ≡ 0) → over_views f views ≡ f v
alone f [] seat v at whole idle = absurd (some-ne-none v (sym at))
alone f (x ∷ xs) zero v at whole idle =
    let is : x ≡ v = some-injective x v at in
    let same : f x ≡ f v = ap f is in
    let weight : x.weight ≡ v.weight = ap (λ (u : Claims). u.weight) is in
    let others = all_idle f xs (omega arith) (λ k. idle (suc k)) in
    omega arith
alone f (x ∷ xs) (suc seat) v at whole idle =
    let most = total_at (λ u. u.weight) xs seat v at in
    let here : f x ≡ 0 = idle 0 x refl (omega arith) in
    let r = alone f xs seat v at (omega arith) (λ k. idle (suc k)) in
    omega arith

-- a load by the seat that holds the whole weight tells that its list holds all
pub look_keeps : (slots id : ℕ) (m : Me (Unit {0}) Claims) → m.0.weight ≡ 64
    → Allows Holds slots id m 0 (λ n. n) (HasLooked (step slots 0 0 0 none) m)
look_keeps slots id m whole s kept _ at small =
    let word : ℕ = slice_index s.words 0 in
    let same : set s.words 0 word ≡ s.words = set_same s.words kept.one_word in
    let views : set s.views id m.0 ≡ s.views = set_again s.views id m.0 at in (
      m.0,
      keeps,
      tt,
      subst (λ (z : List ℕ × List Claims). IsKept z.0 z.1) (λ i. (sym same i, sym views i)) kept,
      (
        refl,
        λ h. let f : Claims → ℕ = λ u. weigh h u.list in
            sym (alone f s.views id m.0 at (kept.weights ∙ sym whole)
            (λ k u e empty. ap (weigh h) (kept.idle k u e empty))) ∙ kept.once h,
      ),
    )

-- numbers below 2^32 are not late
pub no_late : (slots : ℕ) (xs : List ℕ) → slots ≤ 4294967296 → All (λ k. k < slots) xs → weigh (from 4294967296) xs ≡ 0
no_late slots [] most below = refl
no_late slots (x ∷ xs) most below =
    grind (arith, All-head, All-tail, not_from, no_late slots xs most (All-tail (λ k. k < slots) x xs below))

pub cut_keeps' : (id : ℕ) (v : Claims) → 2 ≤ v.weight → v.list ≡ [] → Splits Holds id v (rest_of v) (part_of v)
cut_keeps' id v two none_yet =
    let Cuts : List ℕ → Type 0 = λ xs. Splits Holds id (claims v.weight xs) (claims (v.weight - 1) xs) (claims 1 []) in
    subst Cuts (sym none_yet) (cut_keeps id v.weight two)
