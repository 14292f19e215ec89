-- What follows once all workers have returned.
use Rattle.std.proofs.Common.{◌≡◌, ℕ, zero, suc, ◌+◌, ◌<◌, ◌≤◌, List, [], ◌∷◌, map, length, get_or, set, drop}
use Rattle.std.proofs.Common.{suc-mul, ◌*◌, None, refl, sym, ap, ◌∙◌, subst, arith}
use Rattle.std.specs.Prelude.{All, sum_by}
use Rattle.std.proofs.lemmas.Bool.Decides.{nat_tests}
use Rattle.std.proofs.lemmas.List.Elements.{All-head, All-tail, All-nil, All-cons, All-map}
use Rattle.std.proofs.lemmas.List.Sums.{sum_by-cons}
use mathlib.Core.Logic.{dite}
use native.Mathlib.Decide.{dec_lt}
use Rattle.atomic_table.specs.Seated.{TableId}
use Rattle.scr_workers.specs.declared.lane.Lane.{Lane}
use Rattle.scr_workers.specs.Rule.{weigh, weigh_below, from}
use Rattle.scr_workers.specs.Gather.{only, times, once_below, list_in, without_seat, HasRun, HasSlotAnswer}
use Rattle.scr_workers.specs.Gather.{HoldAnswers, IsSpent}
use Rattle.scr_workers.specs.Work.{slot_of}
use Rattle.scr_workers.proofs.Keeps.{weigh-append, not_from}
use Rattle.scr_workers.proofs.Places.{only-other}

-- sums over lists

module _ {A : Type 0} where
  pub sum_by-same : (f g : A → ℕ) (xs : List A) → All (λ x. f x ≡ g x) xs → sum_by f xs ≡ sum_by g xs
  sum_by-same f g [] same = refl
  sum_by-same f g (x ∷ xs) same =
      grind (arith, All-head, All-tail, sum_by-cons, sum_by-same f g xs (All-tail (λ x. f x ≡ g x) x xs same))

  pub sum_by-each : (f : A → ℕ) (n : ℕ) (xs : List A) → All (λ x. f x ≡ n) xs → sum_by f xs ≡ length xs * n
  sum_by-each f n [] same = omega arith
  sum_by-each f n (x ∷ xs) same =
      grind (arith, All-head, All-tail, sum_by-cons, suc-mul, sum_by-each f n xs (All-tail (λ x. f x ≡ n) x xs same))

  pub sum_by-agree : (f : A → ℕ) (xs ys : List A) → length ys ≡ length xs
      → ((i : ℕ) (d : A) → i < length xs → f (get_or ys i d) ≡ f (get_or xs i d)) → sum_by f ys ≡ sum_by f xs
  sum_by-agree f [] [] len same = refl
  sum_by-agree f (x ∷ xs) (y ∷ ys) len same =
      let here : f y ≡ f x = same 0 x (omega arith) in
      let r = sum_by-agree f xs ys (omega arith) (λ i d h. same (suc i) d (omega arith)) in
      omega (arith, sum_by-cons f x xs, sum_by-cons f y ys)
  sum_by-agree f xs ys len same = absurd (omega arith)

  pub sum_by-map' : {B : Type 0} (f : B → ℕ) (g : A → B) (xs : List A) → sum_by f (map g xs) ≡ sum_by (λ x. f (g x)) xs
  sum_by-map' f g [] = refl
  sum_by-map' f g (x ∷ xs) =
      let r = sum_by-map' f g xs in
      omega (arith, sum_by-cons f (g x) (map g xs), sum_by-cons (λ x. f (g x)) x xs)

pub some_there : {A : Type 0} (f : A → ℕ) (xs : List A) → 0 < sum_by f xs → 0 < length xs
some_there f [] h = absurd (omega arith)
some_there f (x ∷ xs) h = omega arith

-- numbers

pub from_exact : (m n : ℕ) → (n ≤ m → weigh_below (from m) n ≡ 0) × (m ≤ n → weigh_below (from m) n + m ≡ n)
from_exact m zero = (λ h. refl, λ h. omega arith)
from_exact m (suc n) = let r = from_exact m n in let a = r.0 in let b = r.1 in (
  (λ h. let none_here = not_from m n (omega arith) in omega arith),
  (λ h. dite (dec_lt n m)
      (λ below. let none_here = not_from m n below in omega arith)
      (λ above. let one = is_from m n (omega arith) in omega arith)),
)
  where
    is_from : (m x : ℕ) → m ≤ x → from m x ≡ 1
    is_from m x h = grind (arith, nat_tests)

pub weigh_below-only : (x n : ℕ) → weigh_below (only x) n ≡ once_below x n
weigh_below-only x zero = grind (arith, nat_tests)
weigh_below-only x (suc n) = let r = weigh_below-only x n in grind (arith, nat_tests)

-- numbers below m weigh nothing from m on, and none of them is x for x from m on
earlier_from : (m : ℕ) (xs : List ℕ) → All (λ k. k < m) xs → weigh (from m) xs ≡ 0
earlier_from m [] below = refl
earlier_from m (x ∷ xs) below =
    grind (arith, All-head, All-tail, not_from, earlier_from m xs (All-tail (λ k. k < m) x xs below))

earlier_only : (m x : ℕ) (xs : List ℕ) → m ≤ x → All (λ k. k < m) xs → times x xs ≡ 0
earlier_only m x [] above below = refl
earlier_only m x (y ∷ ys) above below =
    grind (arith, All-head, All-tail, only-other, earlier_only m x ys above (All-tail (λ k. k < m) y ys below))

is_from : (m x : ℕ) → m ≤ x → from m x ≡ 1
is_from m x h = grind (arith, nat_tests)

-- what holds of each element of a mapped list
All-unmapped : {A B : Type 0} (P : B → Type 0) (f : A → B) (xs : List A) → All P (map f xs) → All (λ x. P (f x)) xs
All-unmapped P f [] all = All-nil (λ x. P (f x))
All-unmapped P f (x ∷ xs) all =
    grind (arith, All-tail, All-cons, All-head, All-unmapped P f xs (All-tail P (f x) (map f xs) all))

module _ {T : Type 0} (word_of : TableId) (slots : ℕ) (IsAnswer : ℕ → T → Type 0) where
  -- one number of a lane is no slot
  last_one : (l : Lane T) → HasRun word_of slots IsAnswer l → weigh (from slots) (list_in l.seat) ≡ 1
  last_one l run = grind (arith, weigh-append, earlier_from, is_from)

  -- a slot stands in the own list as often as the seat claimed it
  own_times : (x : ℕ) → x < slots → (l : Lane T) → HasRun word_of slots IsAnswer l
      → times x (map slot_of l.own.items) ≡ times x (list_in l.seat)
  own_times x below l run = grind (arith, weigh-append, only-other)

  own_none : (x : ℕ) → slots ≤ x → (l : Lane T) → HasRun word_of slots IsAnswer l
      → times x (map slot_of l.own.items) ≡ 0
  own_none x above l run = grind (arith, earlier_only)

  own_answers : (l : Lane T) → HasRun word_of slots IsAnswer l → All (HasSlotAnswer slots IsAnswer) l.own.items
  own_answers l run =
      let w = run.worked in
      let below : All (λ number. number < slots) (map slot_of l.own.items) =
      subst (All (λ number. number < slots)) (sym w.own_slots) w.below in
      λ k d h. (All-unmapped (λ number. number < slots) slot_of l.own.items below k d h, w.answers k d h)

  module _ (lanes : List (Lane T)) (run : All (HasRun word_of slots IsAnswer) lanes) (list : List ℕ) (word : ℕ)
      (joined : (h : ℕ → ℕ) → weigh h list ≡ sum_by (λ (l : Lane T). weigh h (list_in l.seat)) lanes)
      (all : (h : ℕ → ℕ) → weigh h list ≡ weigh_below h word) where
    -- the word is slots and workers
    pub word_is : 0 < length lanes → word ≡ slots + length lanes
    word_is some =
        let late_in : Lane T → ℕ = λ l. weigh (from slots) (list_in l.seat) in
        let each = sum_by-each late_in 1 lanes (λ k d h. last_one (get_or lanes k d) (run k d h)) in
        let a = joined (from slots) in
        let b = all (from slots) in
        let exact = from_exact slots word in
        dite (dec_lt slots word)
        (λ more. let high = exact.1 (omega arith) in omega arith)
        (λ less. let low = exact.0 (omega arith) in absurd (omega arith))

    pub list_times : 0 < length lanes → (x : ℕ) → times x list ≡ once_below x (slots + length lanes)
    list_times some x = all (only x) ∙ (weigh_below-only x word ∙ ap (once_below x) (word_is some))

    pub hold : 0 < length lanes → HoldAnswers slots IsAnswer (map without_seat lanes)
    hold some = record {
      once = λ x. let in_own : Lane T → ℕ = λ l. times x (map slot_of l.own.items) in
          let in_list : Lane T → ℕ = λ l. times x (list_in l.seat) in
          sum_by-map' in_own without_seat lanes ∙
          dite (dec_lt x slots)
          (λ below. let once_all = once_here x (slots + length lanes) (omega arith) in
          sum_by-same in_own in_list lanes (λ k d h. own_times x below (get_or lanes k d) (run k d h))
          ∙ (sym (joined (only x)) ∙ (list_times some x ∙ (once_all ∙ sym (once_here x slots below)))))
          (λ above. let e = sum_by-each in_own 0 lanes (λ k d h. own_none x (omega arith) (get_or lanes k d) (run k d h)) in
          let z : length lanes * 0 ≡ 0 = omega arith in
          e ∙ (z ∙ sym (once_past x slots (omega arith))));
      answers = All-map (λ (l : Lane T). All (HasSlotAnswer slots IsAnswer) l.own.items) without_seat lanes
          (λ k d h. own_answers (get_or lanes k d) (run k d h));
    }
      where
        once_here : (x n : ℕ) → x < n → once_below x n ≡ 1
        once_here x n h = grind (arith, nat_tests)

        once_past : (x n : ℕ) → n ≤ x → once_below x n ≡ 0
        once_past x n h = grind (arith, nat_tests)

  -- no lane has a seat, and none an answer
  pub all_spent : (ys zs : List (Lane T))
      → map (λ (l : Lane T). l.seat) ys ≡ map (λ (l : Lane T). l.seat) (map without_seat zs)
      → All (λ (l : Lane T). l.own.items ≡ []) ys → All IsSpent ys
  all_spent [] zs seats own = All-nil IsSpent
  all_spent (y ∷ ys) [] seats own = absurd (cc)
  all_spent (y ∷ ys) (z ∷ zs) seats own =
      let seat : y.seat ≡ None = cc in
      let others : map (λ (l : Lane T). l.seat) ys ≡ map (λ (l : Lane T). l.seat) (map without_seat zs) = cc in
      let IsEmpty : Lane T → Type 0 = λ l. l.own.items ≡ [] in
      All-cons IsSpent y ys (seat, All-head IsEmpty y ys own) (all_spent ys zs others (All-tail IsEmpty y ys own))

pub set-front : {A : Type 0} (xs : List A) (x : A) → 0 < length xs → set xs 0 x ≡ x ∷ drop 1 xs
set-front [] x h = absurd (omega arith)
set-front (y ∷ ys) x h = refl
