-- Stages whose words have one letter at most: their word is found by trying the letters one after another.
use Rattle.std.proofs.Common.{◌≡◌, ℕ, zero, suc, ◌<◌, ◌≤◌, ◌⊎◌, inl, inr, List, [], ◌∷◌, Option, Some, refl, sym, ap, ◌∙◌, subst, arith}
use Rattle.std.proofs.lemmas.Bool.{cases_order, ltb-true}
use Rattle.std.proofs.lemmas.List.{append-nil}
use Rattle.std.proofs.lemmas.Option.{same_Some}
use Rattle.scr_combinatorics.specs.Play.{play}
use Rattle.scr_combinatorics.specs.FirstWord.{LeadsTo, IsEarlier}
use Rattle.scr_combinatorics.specs.Stages.{Stage, by_letters, IsStageWord, HasStageWord, spelled}
use Rattle.scr_combinatorics.proofs.PlayLaws.{play-empty}
use Rattle.scr_combinatorics.proofs.FirstWordLaws.{LeadsTo-empty, IsGoal-empty, LeadsTo-cons, LeadsTo-parts, IsFirstWord-goal}
use Rattle.scr_combinatorics.proofs.StageLaws.{by_letters-parts, by_letters-played}

module _ {S T : Type 0} (after : S → T → Option S) (stage : Stage S T) where
  abbrev lettered : S → ℕ → Option S
  lettered = by_letters after stage.letters stage.letter

  -- a letter leads to the goal
  pub record Ends (s : S) (n : ℕ) (r : S) : Type 0 where
    pub below : n < stage.letters
    pub played : play after s (stage.letter n) ≡ Some r
    pub goal : stage.IsGoal r

  -- none with a lower number does
  abbrev pub NoneBefore : S → ℕ → Type 0
  NoneBefore s n = (k : ℕ) (q : S) → k < n → Ends s k q → ⊥

  Ends-leads : (s r : S) (n : ℕ) → Ends s n r → LeadsTo lettered stage.IsGoal s (n ∷ [])
  Ends-leads s r n e =
      LeadsTo-cons lettered stage.IsGoal s r n [] (by_letters-played after stage.letters stage.letter s n e.below ∙ e.played)
      (LeadsTo-empty lettered stage.IsGoal r e.goal)

  leads-Ends : (s : S) (n : ℕ) → LeadsTo lettered stage.IsGoal s (n ∷ []) → (r : S) × Ends s n r
  leads-Ends s n l =
      let parts = LeadsTo-parts lettered stage.IsGoal s n [] l in
      let there = by_letters-parts after stage.letters stage.letter s parts.0 n parts.1 in (
        parts.0,
        record { below = ltb-true n stage.letters there.0; played = there.1; goal = IsGoal-empty lettered stage.IsGoal parts.0 parts.2 },
      )

  -- the word is empty at the goal,
  pub no_letter : (s : S) → stage.IsGoal s → IsStageWord after stage s []
  no_letter s goal = record { first = IsFirstWord-goal lettered stage.IsGoal s goal; within = omega arith }

  -- and else the first letter that leads there
  pub one_letter : (s r : S) (n : ℕ) → 1 ≤ stage.bound → (stage.IsGoal s → ⊥) → Ends s n r → NoneBefore s n
      → IsStageWord after stage s (n ∷ [])
  one_letter s r n bound apart ends none =
      record { first = record { leads = Ends-leads s r n ends; first = first_is }; within = omega arith }
    where
      first_is : (v : List ℕ) → LeadsTo lettered stage.IsGoal s v → (v ≡ n ∷ []) ⊎ IsEarlier (n ∷ []) v
      first_is [] l = absurd (apart (IsGoal-empty lettered stage.IsGoal s l))
      first_is (k ∷ []) l =
          elim (cases_order k n) [
            | inl same ↦ inl (ap (λ m. m ∷ []) same)
            | inr (inl less) ↦ let other = leads-Ends s k l in absurd (none k other.0 less other.1)
            | inr (inr more) ↦ inr (inr (refl, inl more))
          ]
      first_is (k ∷ (j ∷ v)) l = inr (inl (omega arith))

  -- ---- where letter 0 is the empty word

  pub record IsEnding : Type 0 where
    pub bound : stage.bound ≡ 1
    pub some : 0 < stage.letters
    pub empty : stage.letter 0 ≡ []

  module _ (h : IsEnding) (s : S) where
    stays : play after s (stage.letter 0) ≡ Some s
    stays = ap (play after s) h.empty ∙ play-empty after s

    -- the first letter that leads to the goal is the stage's word
    pub ending_word : (r : S) (n : ℕ) → Ends s n r → NoneBefore s n
        → (w : List ℕ) × IsStageWord after stage s w × (stage.letter n ≡ spelled stage.letter w)
    ending_word r zero ends none =
        ([], no_letter s (subst stage.IsGoal (same_Some r s (sym ends.played ∙ stays)) ends.goal), h.empty)
    ending_word r (suc n) ends none =
        let apart : stage.IsGoal s → ⊥ = λ goal. none 0 s (omega arith) (record { below = h.some; played = stays; goal = goal }) in
        (suc n ∷ [], one_letter s r (suc n) (omega (arith, h.bound)) apart ends none, sym (append-nil (stage.letter (suc n))))

    -- and where the stage has a word, some letter leads there
    pub some_letter : HasStageWord after stage s → (n : ℕ) × (r : S) × Ends s n r
    some_letter found = letter_in found.0 found.1
      where
        letter_in : (w : List ℕ) → IsStageWord after stage s w → (n : ℕ) × (r : S) × Ends s n r
        letter_in [] is =
            (0, s, record { below = h.some; played = stays; goal = IsGoal-empty lettered stage.IsGoal s is.first.leads })
        letter_in (n ∷ []) is = let ends = leads-Ends s n is.first.leads in (n, ends.0, ends.1)
        letter_in (n ∷ (k ∷ w)) is = absurd (omega (arith, h.bound, is.within))
