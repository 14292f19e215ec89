-- A fair draw of states is a fair draw of their pictures.
use Rattle.std.proofs.Common.{◌≡◌, ℕ, zero, suc, ◌*◌, ◌/◌, ◌%◌, ◌^◌, ◌<◌, ◌≤◌, Bool, true, false, ◌&&◌, List, [], ◌∷◌, Option, Some, None, inl, inr, refl, sym, ap, ◌∙◌, subst, arith, lt-ltb}
use Rattle.std.specs.Option.{option_map, option_or}
use Rattle.std.specs.Prelude.{IsTrue, ◌↔◌, ◌==◌, not, if◌then◌else◌, replicate}
use Rattle.std.proofs.lemmas.Bool.{cases_Bool, cases_eq, eq-eqb, ne_eqb, true≢false, false_from_ne_true, true_from_ne_false, cond-true, cond-false}
use Rattle.std.proofs.Math.Nat.{le-div_iff_mul-le, mod-eq_of_lt, suc-mul}
use Rattle.scr_combinatorics.specs.Play.{count_in}
use Rattle.scr_combinatorics.specs.Reach.{Puzzle, IsReached, Needs, IsPermitted}
use Rattle.scr_combinatorics.proofs.PlayLaws.{play-empty, map-some, IsReached-solved, Needs-zero}
use Rattle.scr_draw.specs.Attempt.{is_accepted, quotient}
use Rattle.scr_draw.specs.Count.{IsCount}
use Rattle.scr_draw.specs.Drawn.{drawn, hit}
use Rattle.scr_draw.specs.Fair.{IsFair, ways}
use Rattle.scr_combinatorics.specs.Digits.{mixed_digits}
use Rattle.scr_draw.specs.StateSpace.{StateSpace, TellsNeed, Draws, IsFairFor}
use Rattle.scr_draw.proofs.Fairness.{hit_parts, hit_from}
use Rattle.scr_draw.proofs.Outcomes.{Draws-one}
use Rattle.scr_picture_laws.proofs.TwoModels.{TwoModels, states, pictures, same_state, only_solved, Needs-shown, IsPermitted-shown, of_permitted}

-- what has a property has another as often, where they are the same
IsCount-same : {P Q : ℕ → Type 0} {bound k : ℕ} → ((v : ℕ) → P v ↔ Q v) → IsCount P bound k → IsCount Q bound k
IsCount-same same c = record {
  test = c.test;
  tells = λ v lt. (λ t. (same v).0 ((c.tells v lt).0 t), λ q. (c.tells v lt).1 ((same v).1 q));
  counted = c.counted;
}

map-or : {S Q : Type 0} (f : S → Q) (o p : Option S)
    → option_map f (option_or o p) ≡ option_or (option_map f o) (option_map f p)
map-or f None p = refl
map-or f (Some s) p = refl

map-none : {S Q : Type 0} (f : S → Q) (o : Option S) → (option_map f o ≡ None) ↔ (o ≡ None)
map-none f None = (λ e. refl, λ e. refl)
map-none f (Some s) = (λ e. absurd (cc), λ e. absurd (cc))

drawn-map : {S Q : Type 0} (f : S → Q) (hits : ℕ → Option S) (shown : ℕ → Option Q)
    → ((v : ℕ) → shown v ≡ option_map f (hits v)) → (values : List ℕ)
    → drawn shown values ≡ option_map f (drawn hits values)
unfolding drawn
drawn-map f hits shown same [] = refl
drawn-map f hits shown same (v ∷ values) =
    ap (λ o. option_or o (drawn shown values)) (same v)
    ∙ ap (option_or (option_map f (hits v))) (drawn-map f hits shown same values)
    ∙ sym (map-or f (hits v) (drawn hits values))

-- what is drawn is hit by some number
first_hit : {S : Type 0} (hits : ℕ → Option S) (v : ℕ) (s : S) (o rest : Option S) → hits v ≡ o → option_or o rest ≡ Some s
    → (rest ≡ Some s → (u : ℕ) × (hits u ≡ Some s)) → (u : ℕ) × (hits u ≡ Some s)
first_hit hits v s None rest h d later = later d
first_hit hits v s (Some r) rest h d later = (v, h ∙ d)

drawn-hit : {S : Type 0} (hits : ℕ → Option S) (values : List ℕ) (s : S) → drawn hits values ≡ Some s
    → (v : ℕ) × (hits v ≡ Some s)
unfolding drawn
drawn-hit hits [] s e = absurd (cc)
drawn-hit hits (v ∷ values) s e = first_hit hits v s (hits v) (drawn hits values) refl e (drawn-hit hits values s)

-- there is a number to accept only where there is a state
count-some : (count : ℕ) → 1 ≤ quotient count → 0 < count
count-some zero some = absurd (omega (arith, some))
count-some (suc count) some = omega arith

some_run : (count i q : ℕ) → i < count → 1 ≤ q → i < q * count
some_run count i zero lt some = absurd (omega arith)
some_run count i (suc q) lt some = omega (arith, suc-mul q count)

accepted-first : (count i : ℕ) → i < count → 1 ≤ quotient count → IsTrue (is_accepted count i)
accepted-first count i lt some = lt-ltb i (quotient count * count) (some_run count i (quotient count) lt some)

few_states : (count bound : ℕ) → 0 < count → 1 ≤ bound / count → count ≤ bound
few_states count bound above some = let fit = (le-div_iff_mul-le above).0 some in omega (arith, fit)

below_bound : (count bound i : ℕ) → count ≤ bound → i < count → i < bound
below_bound count bound i fits lt = omega arith

-- a number below the count is its own place in a run
own_place : (count i : ℕ) → i < count → i % count ≡ i
own_place count i lt = mod-eq_of_lt lt

-- an option of a test that is the same, where what it gives is
same_options : {S Q : Type 0} (show : S → Q) (a b t : Bool) (x : S) (y : Q) → b ≡ t → (t ≡ true → y ≡ show x)
    → (if a && b then Some y else None) ≡ option_map show (if a && t then Some x else None)
same_options show false b t x y e same = refl
same_options show true b true x y e same = ap (λ c. if c then Some y else None) e ∙ ap Some (same refl)
same_options show true b false x y e same = ap (λ c. if c then Some y else None) e

module _ {S Q T : Type 0} (m : TwoModels S Q T) where
  abbrev p : Puzzle S
  p = states m

  abbrev q : Puzzle Q
  q = pictures m

  solved_reached : IsReached p m.solved
  solved_reached = IsReached-solved p m.solved m.is_solved

  -- what is solved needs nothing
  solved_needs : (least : ℕ) → Needs p m.solved least → least ≡ 0
  unfolding count_in
  solved_needs zero needs = refl
  solved_needs (suc least) needs = absurd (needs [] m.solved (omega arith) (play-empty m.after m.solved) m.is_solved)

  solved_picture_needs : (least : ℕ) → Needs q (m.show m.solved) least → least ≡ 0
  unfolding count_in
  solved_picture_needs zero needs = refl
  solved_picture_needs (suc least) needs =
      absurd (needs [] (m.show m.solved) (omega arith) (play-empty m.turned (m.show m.solved)) (m.shows_solved m.solved m.is_solved))

  module _ (count : ℕ) (state_at : ℕ → S) (least : ℕ)
      (fair : IsFairFor (record { count = count; state_at = state_at; puzzle = p }) least) where
    -- The state of each number, but a solved one in place of those that don't need so many: of these it isn't known
    -- whether turns reach them, and so not what their pictures need. None of them is drawn.
    abbrev state_for : ℕ → S
    state_for i = if fair.test (state_at i) then state_at i else m.solved

    abbrev pub picture_at : ℕ → Q
    picture_at i = m.show (state_for i)

    -- so a picture at a number needs so many where it isn't the solved one; each needs none
    abbrev pub picture_test : Q → Bool
    picture_test r = if least == 0 then true else not (m.test r)

    abbrev pub picture_space : StateSpace Q
    picture_space = record { count = count; state_at = picture_at; puzzle = q }

    abbrev hits : ℕ → Option S
    hits = hit count state_at fair.test

    abbrev picture_hits : ℕ → Option Q
    picture_hits = hit count picture_at picture_test

    some : 0 < count
    some = count-some count fair.fair.some

    below : (v : ℕ) → v % count < count
    below v = let lt = some in omega arith

    permitted_at : (i : ℕ) → i < count → fair.test (state_at i) ≡ true → IsPermitted p least (state_at i)
    permitted_at i lt passes =
        let place = own_place count i lt in
        fair.fair.permitted i (state_at i) (below_bound count (2 ^ 96) i (few_states count (2 ^ 96) some fair.fair.some) lt) (hit_from count state_at fair.test i (state_at i) (accepted-first count i lt fair.fair.some) (ap state_at place) passes)

    -- where the minimum is 0 each state passes
    none_needed : (i : ℕ) → i < count → least ≡ 0 → fair.test (state_at i) ≡ true
    none_needed i lt e =
        (fair.tells i lt).1 (subst (Needs p (state_at i)) (sym e) (Needs-zero p (state_at i)))

    failed : (i : ℕ) → i < count → fair.test (state_at i) ≡ false → least ≡ 0 → ⊥
    failed i lt fails e = true≢false (sym (none_needed i lt e) ∙ fails)

    state_for-passing : (i : ℕ) → fair.test (state_at i) ≡ true → state_for i ≡ state_at i
    state_for-passing i e = cond-true (fair.test (state_at i)) (state_at i) m.solved e

    state_for-failing : (i : ℕ) → fair.test (state_at i) ≡ false → state_for i ≡ m.solved
    state_for-failing i e = cond-false (fair.test (state_at i)) (state_at i) m.solved e

    picture_test-some : (r : Q) → (least ≡ 0 → ⊥) → picture_test r ≡ not (m.test r)
    picture_test-some r some_needed = cond-false (least == 0) true (not (m.test r)) (ne_eqb least 0 some_needed)

    test_at : (i : ℕ) → i < count → picture_test (picture_at i) ≡ fair.test (state_at i)
    test_at i lt =
        elim (cases_eq least 0) [
          | inl none ↦ cond-true (least == 0) true (not (m.test (picture_at i))) (eq-eqb least 0 none) ∙ sym (none_needed i lt none)
          | inr some_needed ↦
              picture_test-some (picture_at i) some_needed
              ∙ elim (cases_Bool (fair.test (state_at i))) [
                | inl passes ↦
                    let permitted = permitted_at i lt passes in
                    ap (λ s. not (m.test (m.show s))) (state_for-passing i passes)
                    ∙ ap not (false_from_ne_true (m.test (m.show (state_at i)))
                    (λ e. some_needed (solved_needs least (subst (λ s. Needs p s least) (only_solved m (state_at i) permitted.0 e) permitted.1))))
                    ∙ sym passes
                | inr fails ↦ ap (λ s. not (m.test (m.show s))) (state_for-failing i fails) ∙ ap not m.told ∙ sym fails
              ]
        ]

    hits-shown : (v : ℕ) → picture_hits v ≡ option_map m.show (hits v)
    hits-shown v =
        let i : ℕ = v % count in
        same_options m.show (is_accepted count v) (picture_test (picture_at i)) (fair.test (state_at i)) (state_at i) (picture_at i)
        (test_at i (below v)) (λ passes. ap m.show (state_for-passing i passes))

    -- ---- what is drawn

    hits-permitted : (v : ℕ) (s : S) → hits v ≡ Some s → IsPermitted p least s
    hits-permitted v s e =
        let parts = hit_parts count state_at fair.test v s e in
        let passes : fair.test (state_at (v % count)) ≡ true = subst (λ x. IsTrue (fair.test x)) (sym parts.1) parts.2 in
        subst (IsPermitted p least) parts.1 (permitted_at (v % count) (below v) passes)

    drawn-permitted : (values : List ℕ) (s : S) → drawn hits values ≡ Some s → IsPermitted p least s
    drawn-permitted values s e = let first = drawn-hit hits values s e in hits-permitted first.0 s first.1

    drawn-shown : (values : List ℕ) → drawn picture_hits values ≡ option_map m.show (drawn hits values)
    drawn-shown = drawn-map m.show hits picture_hits hits-shown

    -- a picture is drawn exactly where its state is
    shown_iff : (o : Option S) (r : Option Q) (s : S) → IsReached p s → ((x : S) → o ≡ Some x → IsPermitted p least x)
        → r ≡ option_map m.show o → (o ≡ Some s) ↔ (r ≡ Some (m.show s))
    shown_iff o r s reached drawn_permitted same = (
      λ e. same ∙ ap (option_map m.show) e,
      λ e.
          let of = map-some m.show o (m.show s) (sym same ∙ e) in
          of.1 ∙ ap Some (same_state m of.0 s (drawn_permitted of.0 of.1).0 reached of.2),
    )

    place_iff : (i : ℕ) (s : S) → i < count → IsPermitted p least s → (state_at i ≡ s) ↔ (picture_at i ≡ m.show s)
    place_iff i s lt permitted = (
      λ e. ap m.show (state_for-passing i ((fair.tells i lt).1 (subst (λ x. Needs p x least) (sym e) permitted.1)) ∙ e),
      λ e. elim (cases_Bool (fair.test (state_at i))) [
        | inl passes ↦
            same_state m (state_at i) s (permitted_at i lt passes).0 permitted.0
            (ap m.show (sym (state_for-passing i passes)) ∙ e)
        | inr fails ↦
            let same = same_state m m.solved s solved_reached permitted.0 (ap m.show (sym (state_for-failing i fails)) ∙ e) in
            absurd (failed i lt fails (solved_needs least (subst (λ x. Needs p x least) (sym same) permitted.1)))
      ],
    )

    picture_tells : TellsNeed picture_space least picture_test
    picture_tells i lt = (
      λ passes.
          let own : fair.test (state_at i) ≡ true = sym (test_at i lt) ∙ passes in
          let permitted = permitted_at i lt own in
          subst (λ s. Needs q (m.show s) least) (sym (state_for-passing i own))
          ((Needs-shown m (state_at i) least permitted.0).0 permitted.1),
      λ needs. test_at i lt ∙ true_from_ne_false (fair.test (state_at i))
          (λ fails. failed i lt fails (solved_picture_needs least (subst (λ s. Needs q (m.show s) least) (state_for-failing i fails) needs))),
    )

    -- ---- fairness

    pub IsFair-shown : IsFair count picture_at picture_hits (IsPermitted q least)
    IsFair-shown = record {
      some = fair.fair.some;
      equally = λ r h.
          let of = of_permitted m r least h in
          subst (λ x. IsCount (λ v. IsTrue (is_accepted count v) × (picture_at (v % count) ≡ x)) (2 ^ 96) (quotient count)) of.shows
          (IsCount-same (λ v.
          let iff = place_iff (v % count) of.state (below v) of.permitted in
          (λ e. (e.0, iff.0 e.1), λ e. (e.0, iff.1 e.1))) (fair.fair.equally of.state of.permitted));
      hit_equally = λ r h.
          let of = of_permitted m r least h in
          subst (λ x. IsCount (λ v. picture_hits v ≡ Some x) (2 ^ 96) (quotient count)) of.shows
          (IsCount-same (λ v. shown_iff (hits v) (picture_hits v) of.state of.permitted.0 (hits-permitted v) (hits-shown v)) (fair.fair.hit_equally of.state of.permitted));
      permitted = λ v r lt e.
          let of = map-some m.show (hits v) r (sym (hits-shown v) ∙ e) in
          subst (IsPermitted q least) of.2 (IsPermitted-shown m of.0 least (hits-permitted v of.0 of.1));
      misses = fair.fair.misses;
      missed = IsCount-same (λ v.
          let none = map-none m.show (hits v) in
          (λ e. hits-shown v ∙ none.1 e, λ e. none.0 (sym (hits-shown v) ∙ e))) fair.fair.missed;
      same_ways = λ len r h.
          let of = of_permitted m r least h in
          subst (λ x. IsCount (λ n. drawn picture_hits (mixed_digits (replicate len (2 ^ 96)) n) ≡ Some x) ((2 ^ 96) ^ len) (ways (2 ^ 96) (quotient count) fair.fair.misses len)) of.shows
          (IsCount-same (λ n.
          let values : List ℕ = mixed_digits (replicate len (2 ^ 96)) n in
          shown_iff (drawn hits values) (drawn picture_hits values) of.state of.permitted.0 (drawn-permitted values) (drawn-shown values)) (fair.fair.same_ways len of.state of.permitted));
    }

    pub IsFairFor-shown : IsFairFor picture_space least
    IsFairFor-shown = record { test = picture_test; tells = picture_tells; fair = IsFair-shown }

    -- what draws a state draws its picture
    pub Draws-shown : (values : List ℕ) (s : S) → Draws (record { count = count; state_at = state_at; puzzle = p }) least values (Some s)
        → Draws picture_space least values (Some (m.show s))
    Draws-shown values s draws =
        let own : Draws (record { count = count; state_at = state_at; puzzle = p }) least values (drawn hits values) =
        record { test = fair.test; tells = fair.tells; drawn_is = refl } in
        let same = Draws-one (record { count = count; state_at = state_at; puzzle = p }) least some values (drawn hits values) (Some s) own draws in
        record { test = picture_test; tells = picture_tells; drawn_is = drawn-shown values ∙ ap (option_map m.show) same }
