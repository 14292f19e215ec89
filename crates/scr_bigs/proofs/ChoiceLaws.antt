-- Choices by numbers: what is drawn, and that it is fair.
use Rattle.std.proofs.Common.{◌≡◌, ℕ, ◌*◌, ◌/◌, ◌%◌, ◌^◌, ◌<◌, ◌≤◌, Bool, true, false, ◌&&◌, Option, Some, None, is_some, List, [], ◌∷◌, length, zero, suc, refl, ap, ◌∙◌, arith}
use Rattle.std.proofs.Math.Path.{fun_ext}
use Rattle.std.specs.Prelude.{slice_get, option_map, option_and_then, if◌then◌else◌, Contains}
use Rattle.std.specs.Option.{option_or}
use Rattle.std.proofs.lemmas.Bool.{lt-ltb}
use Rattle.std.proofs.lemmas.Option.{same_Some, cond_some, option_and_then_some, slice_get-get_or, slice_get_within, get_or_from_slice_get}
use Rattle.scr_draw.specs.Attempt.{answer, attempt_values, is_accepted, quotient}
use Rattle.scr_draw.specs.Count.{IsCount}
use Rattle.scr_draw.specs.Drawn.{drawn, hit}
use Rattle.scr_draw.specs.FirstHit.{numbers_read}
use Rattle.scr_draw.proofs.Accepted.{answered_equally}
use Rattle.scr_draw.proofs.Fairness.{quotient_some}
use Rattle.scr_draw.proofs.FirstHit.{drawn_is_first}
use Rattle.scr_bigs.specs.Choices.{choice_of, IsFairChoice}

-- ---- a number that is accepted

pub answer-accepted : (count v : ℕ) → v < 2 ^ 96 / count * count → Some (v % count) ≡ answer count v
answer-accepted count v below = let test = lt-ltb v (2 ^ 96 / count * count) below in rw test refl

-- as what a number hits, where each state passes
with_true : (accepted : Bool) (r : ℕ) → (if accepted && true then Some r else None) ≡ (if accepted then Some r else None)
with_true true r = refl
with_true false r = refl

pub hit-answer : (count : ℕ) → hit count (λ (number : ℕ). number) (λ number. true) ≡ answer count
hit-answer count = fun_ext (λ v. with_true (is_accepted count v) (v % count))

-- ---- what is drawn

-- what follows from what is made of an option
pub mapped : {A B P : Type 0} (f : A → B) (o : Option A) (y : B) → option_map f o ≡ Some y
    → ((x : A) → o ≡ Some x → f x ≡ y → P) → P
mapped f None y is next = absurd (cc)
mapped f (Some x) y is next = next x refl (same_Some (f x) y is)

-- what follows from what is hit, where something always does, is drawn by as many numbers
module _ {A B : Type 0} (hits : ℕ → Option A) (next : A → Option B)
    (there : (v : ℕ) (a : A) → hits v ≡ Some a → (b : B) × (next a ≡ Some b)) where
  abbrev follows : ℕ → Option B
  follows v = option_and_then next (hits v)

  drawn-next : (values : List ℕ)
      → (drawn follows values ≡ option_and_then next (drawn hits values))
      × (numbers_read follows values ≡ numbers_read hits values)
  unfolding drawn numbers_read
  drawn-next [] = (refl, refl)
  drawn-next (v ∷ values) = step (hits v) (there v) (drawn-next values)
    where
      step : (o : Option A) → ((a : A) → o ≡ Some a → (b : B) × (next a ≡ Some b))
          → (drawn follows values ≡ option_and_then next (drawn hits values))
          × (numbers_read follows values ≡ numbers_read hits values)
          → (option_or (option_and_then next o) (drawn follows values) ≡ option_and_then next (option_or o (drawn hits values)))
          × ((if is_some (option_and_then next o) then 1 else suc (numbers_read follows values))
          ≡ (if is_some o then 1 else suc (numbers_read hits values)))
      step None found later = (later.0, ap suc later.1)
      step (Some a) found later = let b = (found a refl).1 in (rw b refl, rw b refl)

-- what stands at a place of a list
element : {X : Type 0} (xs : List X) (i : ℕ) → i < length xs → (x : X) × (slice_get xs i ≡ Some x)
element [] i below = absurd (omega arith)
element (x ∷ xs) zero below = (x, refl)
element (x ∷ xs) (suc i) below = element xs i (omega arith)

-- of some choices the one with the number that is drawn
module _ {X : Type 0} (choices : List X) (some : 1 ≤ length choices) where
  there : (v i : ℕ) → answer (length choices) v ≡ Some i → (x : X) × (slice_get choices i ≡ Some x)
  there v i is =
      let place = (cond_some (is_accepted (length choices) v) (v % length choices) i is).1 in
      element choices i (omega arith)

  pub drawn-choice : (values : List ℕ)
      → (drawn (choice_of choices) values ≡ option_and_then (slice_get choices) (drawn (answer (length choices)) values))
      × (numbers_read (choice_of choices) values ≡ numbers_read (answer (length choices)) values)
  unfolding choice_of
  drawn-choice = drawn-next (answer (length choices)) (slice_get choices) there

-- and what is drawn is one of them
pub drawn-among : {X : Type 0} (choices : List X) (word : ℕ → ℕ) (place attempts : ℕ) (x : X)
    → drawn (choice_of choices) (attempt_values word place attempts) ≡ Some x → Contains choices x
unfolding choice_of
drawn-among choices word place attempts x is =
    let first = (drawn_is_first (choice_of choices) word place attempts x).0 is in
    option_and_then_some (slice_get choices) _ x first.1.here
    (λ i given at_i. (i, slice_get_within choices i x at_i, get_or_from_slice_get choices i x x at_i))

-- ---- fairness

-- no element stands at two places
abbrev pub Differ : {X : Type 0} → List X → Type 0
Differ {X} xs = (i j : ℕ) (x : X) → slice_get xs i ≡ Some x → slice_get xs j ≡ Some x → i ≡ j

-- a number has an answer as often as each other
pub answer-equally : (count i : ℕ) → i < count → IsCount (λ v. answer count v ≡ Some i) (2 ^ 96) (quotient count)
answer-equally count i below =
    let all = answered_equally count i below in record {
      test = all.test;
      tells = λ v low. (
        λ h. let parts = (all.tells v low).0 h in rw (parts.0, parts.1) refl,
        λ h. (all.tells v low).1 (cond_some (is_accepted count v) (v % count) i h),
      );
      counted = all.counted;
    }

pub choice-fair : {X : Type 0} (choices : List X) → Differ choices → 1 ≤ length choices → length choices ≤ 2 ^ 96
    → IsFairChoice choices
unfolding choice_of
choice-fair choices differ some fits = record {
  some = quotient_some (length choices) some fits;
  differ = differ;
  equally = λ x there.
      let at_x : slice_get choices there.0 ≡ Some x = slice_get-get_or choices there.0 x there.1 ∙ ap Some there.2 in
      let all = answer-equally (length choices) there.0 there.1 in record {
        test = all.test;
        tells = λ v low. (
          λ h. let given = (all.tells v low).0 h in rw given at_x,
          λ h.
              option_and_then_some (slice_get choices) (answer (length choices) v) x h
              (λ i given here. (all.tells v low).1 (given ∙ ap Some (differ i there.0 x here at_x))),
        );
        counted = all.counted;
      };
}
