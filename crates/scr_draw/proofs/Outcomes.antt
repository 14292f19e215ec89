-- Which state some numbers draw, whichever test tells the needs of states.
use Rattle.std.proofs.Common.{◌≡◌, ℕ, ◌%◌, ◌<◌, ◌≤◌, Bool, List, [], ◌∷◌, ◌++◌, Option, Some, None, refl, sym, ap, ◌∙◌, subst, arith}
use Rattle.std.specs.Option.{option_or}
use Rattle.std.specs.Prelude.{All, IsTrue, ◌↔◌}
use Rattle.std.proofs.lemmas.List.Elements.{All-nil, All-cons, All-head, All-tail}
use Rattle.scr_combinatorics.specs.Numbered.{Numbered}
use Rattle.scr_combinatorics.specs.Numbering.{IsNumbering}
use Rattle.scr_combinatorics.specs.Reach.{Puzzle, IsReached, Needs, IsPermitted}
use Rattle.scr_draw.specs.Drawn.{drawn, hit}
use Rattle.scr_draw.specs.StateSpace.{StateSpace, TellsNeed, Draws, IsFairFor, space_of}
use Rattle.scr_draw.specs.OneOutcome.{Hits, Misses, FirstHits, HasOneOutcome}
use Rattle.scr_draw.proofs.Fairness.{fair, fair_for}

-- ---- what is drawn, by what each number hits

drawn-agree : {S : Type 0} (f g : ℕ → Option S) → ((v : ℕ) → f v ≡ g v) → (values : List ℕ)
    → drawn f values ≡ drawn g values
unfolding drawn
drawn-agree f g same [] = refl
drawn-agree f g same (v ∷ vs) =
    ap (λ o. option_or o (drawn f vs)) (same v) ∙ ap (option_or (g v)) (drawn-agree f g same vs)

drawn-first : {S : Type 0} (f : ℕ → Option S) (v : ℕ) (vs : List ℕ) (s : S) → f v ≡ Some s → drawn f (v ∷ vs) ≡ Some s
unfolding drawn
drawn-first f v vs s e = ap (λ o. option_or o (drawn f vs)) e

drawn-later : {S : Type 0} (f : ℕ → Option S) (v : ℕ) (vs : List ℕ) → f v ≡ None → drawn f (v ∷ vs) ≡ drawn f vs
unfolding drawn
drawn-later f v vs e = ap (λ o. option_or o (drawn f vs)) e

drawn-nothing : {S : Type 0} (f : ℕ → Option S) → drawn f [] ≡ None
unfolding drawn
drawn-nothing f = refl

-- two tests that tell hit alike, where there is a state
hits_agree : {S : Type 0} (space : StateSpace S) (least : ℕ) → 1 ≤ space.count → (a b : S → Bool)
    → TellsNeed space least a → TellsNeed space least b → (v : ℕ)
    → hit space.count space.state_at a v ≡ hit space.count space.state_at b v
hits_agree {S} space least some a b ta tb v = grind arith

-- so numbers have one outcome, whichever test tells
pub Draws-one : {S : Type 0} (space : StateSpace S) (least : ℕ) → 1 ≤ space.count → (values : List ℕ) (o p : Option S)
    → Draws space least values o → Draws space least values p → o ≡ p
Draws-one space least some values o p d e =
    sym d.drawn_is ∙ drawn-agree _ _ (hits_agree space least some d.test e.test d.tells e.tells) values ∙ e.drawn_is

module _ {S : Type 0} (n : Numbered S) (puzzle : Puzzle S) (least : ℕ) (numbering : IsNumbering n) where
  below_count : (v : ℕ) → v % n.count < n.count
  below_count v = let some = numbering.some in omega arith

  module _ (test : S → Bool) (tells : TellsNeed (space_of n puzzle) least test) where
    f : ℕ → Option S
    f v = hit n.count n.state_at test v

    f-some : (v : ℕ) (s : S) → f v ≡ Some s → Hits (space_of n puzzle) least v s
    unfolding f
    f-some v s e = grind arith

    some-f : (v : ℕ) (s : S) → Hits (space_of n puzzle) least v s → f v ≡ Some s
    unfolding f
    some-f v s h = grind arith

    f-none : (v : ℕ) → f v ≡ None → Misses (space_of n puzzle) least v
    f-none v e s h = let hits = some-f v s h in cc (sym e ∙ hits)

    none-f_by : (v : ℕ) (o : Option S) → f v ≡ o → Misses (space_of n puzzle) least v → f v ≡ None
    none-f_by v o e misses = grind (arith, f-some)

    none-f : (v : ℕ) → Misses (space_of n puzzle) least v → f v ≡ None
    none-f v misses = none-f_by v (f v) refl misses

    -- each number misses exactly where none is drawn
    missed_by : (v : ℕ) (vs : List ℕ) (o : Option S) → f v ≡ o → drawn f (v ∷ vs) ≡ None
        → (f v ≡ None) × (drawn f vs ≡ None)
    missed_by v vs o e d = grind (arith, drawn-later, f, drawn-first)

    all_missed : (values : List ℕ) → drawn f values ≡ None → All (Misses (space_of n puzzle) least) values
    all_missed [] d = All-nil (Misses (space_of n puzzle) least)
    all_missed (v ∷ vs) d =
        let parts = missed_by v vs (f v) refl d in
        All-cons (Misses (space_of n puzzle) least) v vs (f-none v parts.0) (all_missed vs parts.1)

    none_drawn : (values : List ℕ) → All (Misses (space_of n puzzle) least) values → drawn f values ≡ None
    none_drawn [] all = drawn-nothing f
    none_drawn (v ∷ vs) all =
        drawn-later f v vs (none-f v (All-head (Misses (space_of n puzzle) least) v vs all)) ∙ none_drawn vs (All-tail (Misses (space_of n puzzle) least) v vs all)

    -- and a state is drawn exactly where the first number that doesn't miss hits it
    first_by : (v : ℕ) (vs : List ℕ) (s : S) (o : Option S) → f v ≡ o → drawn f (v ∷ vs) ≡ Some s
        → (drawn f vs ≡ Some s → FirstHits (space_of n puzzle) least vs s)
        → FirstHits (space_of n puzzle) least (v ∷ vs) s
    first_by v vs s None e d later =
        let rest = later (sym (drawn-later f v vs e) ∙ d) in
        record {
          before = v ∷ rest.before;
          number = rest.number;
          after = rest.after;
          values_are = ap (λ xs. v ∷ xs) rest.values_are;
          missed = All-cons (Misses (space_of n puzzle) least) v rest.before (f-none v e) rest.missed;
          hits = rest.hits;
        }
    first_by v vs s (Some r) e d later =
        let first = drawn-first f v vs r e in
        let same : f v ≡ Some s = e ∙ sym first ∙ d in
        record { before = []; number = v; after = vs; values_are = refl; missed = All-nil (Misses (space_of n puzzle) least); hits = f-some v s same }

    first_of : (values : List ℕ) (s : S) → drawn f values ≡ Some s → FirstHits (space_of n puzzle) least values s
    first_of [] s d = let none = drawn-nothing f in cc (sym none ∙ d)
    first_of (v ∷ vs) s d = first_by v vs s (f v) refl d (first_of vs s)

    drawn_before : (before after : List ℕ) (v : ℕ) (s : S) → All (Misses (space_of n puzzle) least) before
        → f v ≡ Some s → drawn f (before ++ v ∷ after) ≡ Some s
    drawn_before [] after v s all e = drawn-first f v after s e
    drawn_before (x ∷ before) after v s all e =
        drawn-later f x (before ++ v ∷ after) (none-f x (All-head (Misses (space_of n puzzle) least) x before all))
        ∙ drawn_before before after v s (All-tail (Misses (space_of n puzzle) least) x before all) e

  -- ---- the same of outcomes

  first_hits : (values : List ℕ) (s : S) → Draws (space_of n puzzle) least values (Some s)
      → FirstHits (space_of n puzzle) least values s
  unfolding f
  first_hits values s d = first_of d.test d.tells values s d.drawn_is

  -- where a test is exact on the numbered states
  module _ (test : S → Bool) (exact : (s : S) → n.IsValid s → IsTrue (test s) ↔ Needs puzzle s least) where
    -- it tells
    pub TellsNeed-exact : TellsNeed (space_of n puzzle) least test
    TellsNeed-exact i below = exact (n.state_at i) (numbering.one_to_one.valid i below)

    -- what the test draws is drawn
    pub Draws-exact : (values : List ℕ) (o : Option S) → drawn (hit n.count n.state_at test) values ≡ o
        → Draws (space_of n puzzle) least values o
    Draws-exact values o e = record { test = test; tells = TellsNeed-exact; drawn_is = e }

    -- and where they are those that turns reach
    module _ (reached : (s : S) → n.IsValid s ↔ IsReached puzzle s) where
      reached_at : (i : ℕ) → i < n.count → IsReached puzzle (n.state_at i)
      reached_at i below = (reached _).0 (numbering.one_to_one.valid i below)

      -- there is one outcome
      pub HasOneOutcome-random : HasOneOutcome (space_of n puzzle) least
      unfolding f
      HasOneOutcome-random = record {
        one = Draws-one (space_of n puzzle) least numbering.some;
        first = λ values s. (
          first_hits values s,
          λ h. record {
            test = test;
            tells = TellsNeed-exact;
            drawn_is =
                let hits = some-f test TellsNeed-exact h.number s h.hits in
                ap (drawn (f test TellsNeed-exact)) h.values_are
                ∙ drawn_before test TellsNeed-exact h.before h.after h.number s h.missed hits;
          },
        );
        none = λ values. (
          λ d. all_missed d.test d.tells values d.drawn_is,
          λ all. record { test = test; tells = TellsNeed-exact; drawn_is = none_drawn test TellsNeed-exact values all },
        );
        permitted = λ values s d.
            let first = first_hits values s d in
            let at = reached_at (first.number % n.count) (below_count first.number) in
            (subst (IsReached puzzle) first.hits.state at, first.hits.needs);
      }

      -- and drawing is fair
      pub IsFairFor-random : IsFairFor (space_of n puzzle) least
      IsFairFor-random = record {
        test = test;
        tells = TellsNeed-exact;
        fair = fair_for (λ s. n.IsValid s × IsTrue (test s)) (IsPermitted puzzle least)
            (λ s. (
              λ h. ((reached s).0 h.0, (exact s h.0).0 h.1),
              λ h. let valid = (reached s).1 h.0 in (valid, (exact s valid).1 h.1),
            ))
            (fair n numbering test);
      }
