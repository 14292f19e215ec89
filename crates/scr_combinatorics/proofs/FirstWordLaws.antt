-- Laws of distances and first words over any states and turns.
use Rattle.std.proofs.lemmas.Grind.{common_steps}
use Rattle.std.proofs.Common.{◌≡◌, ℕ, suc, ◌+◌, ◌<◌, ◌≤◌, List, [], ◌∷◌, length, ◌⊎◌, inl, inr, Option, Some, refl, sym, ap, ◌∙◌, subst, arith}
use Rattle.std.proofs.Math.Logic.{∥∥₁_elim, ∥∥₁_map}
use Rattle.std.proofs.lemmas.Bool.{cases_order, cases_lt}
use Rattle.scr_combinatorics.proofs.Orders.{ComesBefore-asymmetric}
use Rattle.scr_combinatorics.specs.FirstWord.{LeadsTo, IsEarlier, IsFirstWord, IsDistance, LowersFirst}
use Rattle.scr_combinatorics.proofs.PlayLaws.{play-empty, play-first, play-parts}

-- no two words come before one another
pub IsEarlier-asymmetric : (v w : List ℕ) → IsEarlier v w → IsEarlier w v → ⊥
IsEarlier-asymmetric v w (inl a) (inl b) = omega arith
IsEarlier-asymmetric v w (inl a) (inr b) = omega (arith, b.0)
IsEarlier-asymmetric v w (inr a) (inl b) = omega (arith, a.0)
IsEarlier-asymmetric v w (inr a) (inr b) = ComesBefore-asymmetric v w a.1 b.1

module _ {S : Type 0} (after : S → ℕ → Option S) (IsGoal : S → Type 0) where
  -- the empty word leads from goals
  pub LeadsTo-empty : (s : S) → IsGoal s → LeadsTo after IsGoal s []
  LeadsTo-empty s g = record { end = s; played = play-empty after s; goal = g }

  -- and from no other state
  pub IsGoal-empty : (s : S) → LeadsTo after IsGoal s [] → IsGoal s
  IsGoal-empty s l = grind (arith, play-empty)

  -- a word leads where its rest leads from where its first turn does
  pub LeadsTo-cons : (s r : S) (t : ℕ) (w : List ℕ) → after s t ≡ Some r → LeadsTo after IsGoal r w
      → LeadsTo after IsGoal s (t ∷ w)
  LeadsTo-cons s r t w e l = record { end = l.end; played = play-first after s r t w e ∙ l.played; goal = l.goal }

  pub LeadsTo-parts : (s : S) (t : ℕ) (w : List ℕ) → LeadsTo after IsGoal s (t ∷ w)
      → (r : S) × (after s t ≡ Some r) × LeadsTo after IsGoal r w
  LeadsTo-parts s t w l = grind (arith, play-parts)

  -- a distance is no more than another
  distance_le : (s : S) (d e : ℕ) → IsDistance after IsGoal s d → IsDistance after IsGoal s e → e < d → ⊥
  distance_le s d e a b lt = ∥∥₁_elim b.reached (hlevel) (λ w. omega (arith, a.least w.0 w.1, w.2))

  -- a state has one distance
  pub IsDistance-unique : (s : S) (d e : ℕ) → IsDistance after IsGoal s d → IsDistance after IsGoal s e → d ≡ e
  IsDistance-unique s d e a b = grind (arith, cases_order, distance_le)

  -- a goal is at no distance
  pub IsDistance-goal : (s : S) → IsGoal s → IsDistance after IsGoal s 0
  IsDistance-goal s g = record { reached = ∣ ([], LeadsTo-empty s g, refl) ∣₁; least = λ w l. omega arith }

  -- and nothing else is, where goals are told by a proposition
  pub IsGoal-distance : (s : S) → IsProp (IsGoal s) → IsDistance after IsGoal s 0 → IsGoal s
  IsGoal-distance s prop h = ∥∥₁_elim h.reached prop (λ w. goal_of w.0 w.1 w.2)
    where
      goal_of : (w : List ℕ) → LeadsTo after IsGoal s w → length w ≡ 0 → IsGoal s
      goal_of [] l e = IsGoal-empty s l
      goal_of (t ∷ w) l e = absurd (omega arith)

  -- no turn leads further down than by one
  pub IsDistance-step : (s r : S) (t d e : ℕ) → after s t ≡ Some r → IsDistance after IsGoal s d
      → IsDistance after IsGoal r e → d ≤ e + 1
  IsDistance-step s r t d e moves a b =
      elim (cases_lt (e + 1) d) [
        | inl lt ↦ absurd (∥∥₁_elim b.reached (hlevel) (λ w. omega (arith, a.least (t ∷ w.0) (LeadsTo-cons s r t w.0 moves w.1), w.2)))
        | inr le ↦ le
      ]

  -- where a word of one turn less leads on from where a turn leads, that is the distance there
  distance_after : (s r : S) (t d : ℕ) (w : List ℕ) → after s t ≡ Some r → IsDistance after IsGoal s (suc d)
      → LeadsTo after IsGoal r w → length w ≡ d → IsDistance after IsGoal r d
  distance_after s r t d w moves h l e = record {
    reached = ∣ (w, l, e) ∣₁;
    least = λ v k. omega (arith, h.least (t ∷ v) (LeadsTo-cons s r t v moves k));
  }

  -- some turn lowers the distance, where it isn't 0
  pub IsDistance-lowers : (s : S) (d : ℕ) → IsDistance after IsGoal s (suc d)
      → ∥ ((t : ℕ) × (r : S) × (after s t ≡ Some r) × IsDistance after IsGoal r d) ∥₁
  IsDistance-lowers s d h = ∥∥₁_map h.reached (λ w. lowers w.0 w.1 w.2)
    where
      lowers : (w : List ℕ) → LeadsTo after IsGoal s w → length w ≡ suc d
          → (t : ℕ) × (r : S) × (after s t ≡ Some r) × IsDistance after IsGoal r d
      lowers [] l e = absurd (omega arith)
      lowers (t ∷ w) l e =
          let parts = LeadsTo-parts s t w l in
          (t, parts.0, parts.1, distance_after s parts.0 t d w parts.1 h parts.2 (omega arith))

  -- a first word is no longer than any that leads to the goal
  earlier_length : (v w : List ℕ) → (v ≡ w) ⊎ IsEarlier w v → length w ≤ length v
  earlier_length v w (inl same) = omega (arith, ap length same)
  earlier_length v w (inr (inl lt)) = omega arith
  earlier_length v w (inr (inr same)) = omega (arith, same.0)

  -- a first word has the distance as its length
  pub IsDistance-first : (s : S) (w : List ℕ) → IsFirstWord after IsGoal s w → IsDistance after IsGoal s (length w)
  IsDistance-first s w h = grind (arith, common_steps, earlier_length)

  -- a state has one first word
  pub IsFirstWord-unique : (s : S) (v w : List ℕ) → IsFirstWord after IsGoal s v → IsFirstWord after IsGoal s w → v ≡ w
  IsFirstWord-unique s v w a b =
      elim (b.first v a.leads) [
        | inl same ↦ same
        | inr later ↦
            elim (a.first w b.leads) [
              | inl same ↦ sym same
              | inr earlier ↦ absurd (IsEarlier-asymmetric v w earlier later)
            ]
      ]

  -- the first word from a goal is empty
  pub IsFirstWord-goal : (s : S) → IsGoal s → IsFirstWord after IsGoal s []
  IsFirstWord-goal s g = record { leads = LeadsTo-empty s g; first = first_is }
    where
      first_is : (v : List ℕ) → LeadsTo after IsGoal s v → (v ≡ []) ⊎ IsEarlier [] v
      first_is [] l = inl refl
      first_is (t ∷ v) l = inr (inl (omega arith))

  -- The least turn that lowers the distance, and then the first word from where it leads, are the first word.
  module _ (s r : S) (t d : ℕ) (w : List ℕ) (h : IsDistance after IsGoal s (suc d)) (l : LowersFirst after IsGoal s r t d)
      (rest : IsFirstWord after IsGoal r w) where
    as_long : length w ≡ d
    as_long = IsDistance-unique r (length w) d (IsDistance-first r w rest) l.lower

    -- of words that begin with the turn
    first_after : (x : List ℕ) → length x ≡ d → (x ≡ w) ⊎ IsEarlier w x → (t ∷ x ≡ t ∷ w) ⊎ IsEarlier (t ∷ w) (t ∷ x)
    first_after x e (inl same) = inl (ap (λ y. t ∷ y) same)
    first_after x e (inr (inl lt)) = absurd (omega (arith, as_long))
    first_after x e (inr (inr same)) = inr (inr (omega (arith, same.0), inr (refl, same.1)))

    -- of words of the same length
    first_of : (u : ℕ) (q : S) (x : List ℕ) → after s u ≡ Some q → LeadsTo after IsGoal q x → length x ≡ d
        → (u ∷ x ≡ t ∷ w) ⊎ IsEarlier (t ∷ w) (u ∷ x)
    first_of u q x moves k e =
        elim (cases_order u t) [
          | inl same ↦
              let here : after s t ≡ Some q = ap (after s) (sym same) ∙ moves in
              let there = l.leads in
              let ends : q ≡ r = cc in
              let P : S → Type 0 = λ y. LeadsTo after IsGoal y x in
              let Q : ℕ → Type 0 = λ v. (v ∷ x ≡ t ∷ w) ⊎ IsEarlier (t ∷ w) (v ∷ x) in
              subst Q (sym same) (first_after x e (rest.first x (subst P ends k)))
          | inr (inl lt) ↦ absurd (l.first u q lt moves (distance_after s q u d x moves h k e))
          | inr (inr lt) ↦ inr (inr (omega (arith, as_long), inl lt))
        ]

    first_is : (v : List ℕ) → LeadsTo after IsGoal s v → (v ≡ t ∷ w) ⊎ IsEarlier (t ∷ w) v
    first_is [] k = absurd (omega (arith, h.least [] k))
    first_is (u ∷ x) k =
        let parts = LeadsTo-parts s u x k in
        elim (cases_order (length x) d) [
          | inl same ↦ first_of u parts.0 x parts.1 parts.2 same
          | inr (inl lt) ↦ absurd (omega (arith, h.least (u ∷ x) k))
          | inr (inr lt) ↦ inr (inl (omega (arith, as_long)))
        ]

    pub IsFirstWord-cons : IsFirstWord after IsGoal s (t ∷ w)
    IsFirstWord-cons = record { leads = LeadsTo-cons s r t w l.leads rest.leads; first = first_is }

  -- And a first word is its least turn that lowers the distance, followed by the first word from where that turn leads.
  module _ (s : S) (t : ℕ) (w : List ℕ) (h : IsFirstWord after IsGoal s (t ∷ w)) where
    -- of words that begin with the same turn
    rest_of : (v : List ℕ) → (t ∷ v ≡ t ∷ w) ⊎ IsEarlier (t ∷ w) (t ∷ v) → (v ≡ w) ⊎ IsEarlier w v
    rest_of v (inl same) = inl (cc)
    rest_of v (inr (inl lt)) = inr (inl (omega arith))
    rest_of v (inr (inr (e, inl lt))) = absurd (omega arith)
    rest_of v (inr (inr (e, inr same))) = inr (inr (omega arith, same.1))

    no_lower : (u : ℕ) (x : List ℕ) → u < t → length x ≡ length w → (u ∷ x ≡ t ∷ w) ⊎ IsEarlier (t ∷ w) (u ∷ x) → ⊥
    no_lower u x lt e (inl same) = let turn : u ≡ t = cc in omega arith
    no_lower u x lt e (inr (inl longer)) = omega arith
    no_lower u x lt e (inr (inr (same, inl less))) = omega arith
    no_lower u x lt e (inr (inr (same, inr equal))) = omega (arith, equal.0)

    pub IsFirstWord-parts : (r : S) × LowersFirst after IsGoal s r t (length w) × IsFirstWord after IsGoal r w
    IsFirstWord-parts =
        let parts = LeadsTo-parts s t w h.leads in
        let rest : IsFirstWord after IsGoal parts.0 w = record {
          leads = parts.2;
          first = λ v l. rest_of v (h.first (t ∷ v) (LeadsTo-cons s parts.0 t v parts.1 l));
        } in
        let lowers : LowersFirst after IsGoal s parts.0 t (length w) = record {
          leads = parts.1;
          lower = IsDistance-first parts.0 w rest;
          first = λ u q lt moves d. ∥∥₁_elim d.reached (hlevel) (λ x.
              no_lower u x.0 lt x.2 (h.first (u ∷ x.0) (LeadsTo-cons s q u x.0 moves x.1)));
        } in
        (parts.0, lowers, rest)
