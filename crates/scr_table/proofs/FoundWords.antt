-- Each position of a table that measures a coordinate has a first word.
use Rattle.std.proofs.Common.{◌≡◌, ℕ, zero, suc, ◌+◌, ◌<◌, ◌⊎◌, inl, inr, Bool, true, false, eqb, List, [], ◌∷◌, get_or, Option, Some, None, refl, sym, ap, ◌∙◌, add-one, arith}
use Rattle.std.proofs.Math.Bool.{Bool-set}
use Rattle.std.proofs.lemmas.Bool.{cases_lt}
use Rattle.scr_positions.specs.Coordinates.{Coordinate, moved, IsGoal}
use Rattle.scr_combinatorics.specs.FirstWord.{IsFirstWord, LowersFirst}
use Rattle.scr_combinatorics.proofs.FirstWordLaws.{IsGoal-distance, IsFirstWord-goal, IsFirstWord-cons}
use Rattle.scr_table.specs.Distances.{Distances, Measures}
use Rattle.scr_table.proofs.StepLaws.{moved-below}
use Rattle.scr_table.proofs.DescentLaws.{distance_at, LowersFirst-measured, some_turn-lowers}

-- the least number below n that passes a test, or that none does
abbrev pub LeastBelow : (ℕ → Bool) → ℕ → Type 0
LeastBelow test n = (t : ℕ) × (t < n) × (test t ≡ true) × ((u : ℕ) → u < t → test u ≡ false)

pub least_below : (test : ℕ → Bool) (n : ℕ) → LeastBelow test n ⊎ ((t : ℕ) → t < n → test t ≡ false)
least_below test zero = inr (λ t lt. absurd (omega arith))
least_below test (suc n) =
    elim (least_below test n) [
      | inl found ↦ inl (found.0, omega (arith, found.1), found.2, found.3)
      | inr none ↦ at (test n) refl none
    ]
  where
    below_next : (b : Bool) → test n ≡ b → ((t : ℕ) → t < n → test t ≡ false) → (t : ℕ) → t < suc n → b ≡ false
        → test t ≡ false
    below_next b is none t lt not =
        elim (cases_lt t n) [
          | inl less ↦ none t less
          | inr le ↦ let same : n ≡ t = omega arith in ap test (sym same) ∙ is ∙ not
        ]

    at : (b : Bool) → test n ≡ b → ((t : ℕ) → t < n → test t ≡ false)
        → LeastBelow test (suc n) ⊎ ((t : ℕ) → t < suc n → test t ≡ false)
    at true is none = inl (n, omega arith, is, none)
    at false is none = inr (λ t lt. below_next false is none t lt refl)

module _ (c : Coordinate) (table : Distances) (measures : Measures c table) where
  -- whether a turn leads to a position with this entry
  leads_to : ℕ → Option ℕ → Bool
  leads_to lower None = false
  leads_to lower (Some q) = eqb (get_or table.distances q 0) lower

  leads_to-some : (lower : ℕ) (o : Option ℕ) → leads_to lower o ≡ true
      → (q : ℕ) × (o ≡ Some q) × (get_or table.distances q 0 ≡ lower)
  unfolding leads_to
  leads_to-some lower o h0 = grind arith

  leads_to-none : (lower q : ℕ) (o : Option ℕ) → leads_to lower o ≡ false → o ≡ Some q
      → get_or table.distances q 0 ≡ lower → ⊥
  unfolding leads_to
  leads_to-none lower q o not is here = grind arith

  -- where an entry isn't 0, some turn is the first that lowers the distance
  pub first_lowering : (p lower : ℕ) → p < c.count → get_or table.distances p 0 ≡ lower + 1
      → (t : ℕ) × (q : ℕ) × LowersFirst (moved c) (IsGoal c) p q t lower × (q < c.count) × (get_or table.distances q 0 ≡ lower)
  first_lowering p lower lt e =
      elim (least_below (λ t. leads_to lower (moved c p t)) c.turns) [
        | inl found ↦
            let there = leads_to-some lower (moved c p found.0) found.2 in (
              found.0,
              there.0,
              LowersFirst-measured c table measures p lower lt found.0 there.0
                  (λ u q less moves at. leads_to-none lower q (moved c p u) (found.3 u less) moves at) there.1 there.2,
              moved-below c measures.stays_below p found.0 there.0 lt there.1,
              there.2,
            )
        | inr none ↦
            absurd (some_turn-lowers c table measures p lower lt e
            (λ t q less moves at. leads_to-none lower q (moved c p t) (none t less) moves at))
      ]

  word_at : (d p : ℕ) → p < c.count → get_or table.distances p 0 ≡ d
      → (w : List ℕ) × IsFirstWord (moved c) (IsGoal c) p w
  word_at zero p lt e =
      let goal = IsGoal-distance (moved c) (IsGoal c) p (Bool-set (c.is_goal p) true) (distance_at c table measures p 0 lt e) in
      ([], IsFirstWord-goal (moved c) (IsGoal c) p goal)
  word_at (suc d) p lt e =
      let step = first_lowering p d lt (e ∙ sym (add-one d)) in
      let rest = word_at d step.1 step.3 step.4 in (
        step.0 ∷ rest.0,
        IsFirstWord-cons (moved c) (IsGoal c) p step.1 step.0 d rest.0 (distance_at c table measures p (suc d) lt e) step.2 rest.1,
      )

  -- each position has a first word
  pub first_word : (p : ℕ) → p < c.count → (w : List ℕ) × IsFirstWord (moved c) (IsGoal c) p w
  first_word p lt = word_at (get_or table.distances p 0) p lt refl
