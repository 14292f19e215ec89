-- The steps of taking back and of tidying words that are told by numbers, which tidying keeps with the last one first.
use Rattle.std.proofs.Common.{◌≡◌, ℕ, ◌-◌, ◌<◌, ◌≤◌, false, IsTrue, List, [], ◌∷◌, ◌++◌, Option, Some, None, length, drop, get_or, reverse, refl, sym, ap, ◌∙◌, arith, suc}
use Rattle.std.specs.Prelude.{map}
use Rattle.std.specs.Option.{option_map}
use mathlib.Core.List.{reverse-append}
use Rattle.std.proofs.Math.Seq.{drop-cons}
use Rattle.scr_combinatorics.specs.Back.{back}
use Rattle.scr_combinatorics.proofs.BackLaws.{back-first}
use Rattle.scr_combinatorics.specs.Tidy.{word_of, with_turn, tidy, begins_alike}
use Rattle.scr_combinatorics.proofs.TidyLaws.{with_turn-alike, with_turn-apart}
use Rattle.scr_notation.specs.declared.event.Kind.{Kind}
use Rattle.scr_notation.specs.declared.turn.Turn.{Turn}
use Rattle.scr_notation.specs.TurnNumbers.{turn_at}
use Rattle.scr_notation.specs.Turning.{opposite, are_alike, turns_merged, turn_merging}

-- what is left from one place earlier on
one-earlier : {A : Type 0} (xs : List A) (k : ℕ) (d : A) → 0 < k → k ≤ length xs
    → drop (k - 1) xs ≡ get_or xs (k - 1) d ∷ drop k xs
one-earlier xs k d p l =
    let next : suc (k - 1) ≡ k = omega arith in
    drop-cons xs (k - 1) d (omega arith) ∙ ap (λ j. get_or xs (k - 1) d ∷ drop j xs) next

module _ (kind : Kind) where
  -- the turns of numbers that stand with the last one first
  abbrev pub turns_of : List ℕ → List Turn
  turns_of numbers = map (turn_at kind) (reverse numbers)

  -- the turn before the others comes last
  pushed : (rest : List ℕ) (n : ℕ) → turns_of (rest ++ n ∷ []) ≡ turn_at kind n ∷ turns_of rest
  pushed rest n = ap (map (turn_at kind)) (reverse-append rest (n ∷ []))

  -- a turn before no turn
  pub before-none : (n : ℕ) (old new : List ℕ) → old ≡ [] → new ≡ old ++ n ∷ []
      → turns_of new ≡ with_turn turn_merging (turn_at kind n) (turns_of old)
  unfolding begins_alike
  before-none n old new e h =
      ap turns_of (h ∙ ap (λ x. x ++ n ∷ []) e)
      ∙ sym (ap (λ x. with_turn turn_merging (turn_at kind n) (turns_of x)) e ∙ with_turn-apart turn_merging (turn_at kind n) [] refl)

  -- before a turn of its face, with which it comes to one turn or to none
  pub before-alike : (n m : ℕ) (left : Option ℕ) (old rest new : List ℕ) → IsTrue (are_alike (turn_at kind n) (turn_at kind m))
      → option_map (turn_at kind) left ≡ turns_merged (turn_at kind n) (turn_at kind m) → old ≡ rest ++ m ∷ []
      → turns_of new ≡ word_of (option_map (turn_at kind) left) ++ turns_of rest
      → turns_of new ≡ with_turn turn_merging (turn_at kind n) (turns_of old)
  before-alike n m left old rest new a is e h =
      h ∙ ap (λ x. word_of x ++ turns_of rest) is
      ∙ sym (with_turn-alike turn_merging (turn_at kind n) (turn_at kind m) (turns_of rest) a)
      ∙ ap (with_turn turn_merging (turn_at kind n)) (sym (ap turns_of e ∙ pushed rest m))

  pub merged-one : (n : ℕ) (rest new : List ℕ) → new ≡ rest ++ n ∷ []
      → turns_of new ≡ word_of (option_map (turn_at kind) (Some n)) ++ turns_of rest
  unfolding word_of
  merged-one n rest new h = ap turns_of h ∙ pushed rest n

  pub merged-gone : (rest new : List ℕ) → new ≡ rest → let none : Option ℕ = None in
      turns_of new ≡ word_of (option_map (turn_at kind) none) ++ turns_of rest
  unfolding word_of
  merged-gone rest new h = ap turns_of h

  -- before a turn of another face
  pub before-other : (n m : ℕ) (old rest new : List ℕ) → are_alike (turn_at kind n) (turn_at kind m) ≡ false → old ≡ rest ++ m ∷ []
      → new ≡ old ++ n ∷ [] → turns_of new ≡ with_turn turn_merging (turn_at kind n) (turns_of old)
  unfolding begins_alike
  before-other n m old rest new a e h =
      let r = ap turns_of e ∙ pushed rest m in
      ap turns_of h ∙ pushed old n ∙ ap (λ x. turn_at kind n ∷ x) r
      ∙ sym (ap (with_turn turn_merging (turn_at kind n)) r ∙ with_turn-apart turn_merging (turn_at kind n) (turn_at kind m ∷ turns_of rest) a)

  -- one turn more is tidied
  pub tidy-more : (numbers : List ℕ) (k d : ℕ) (old new : List ℕ) → 0 < k → k ≤ length numbers
      → turns_of old ≡ tidy turn_merging (map (turn_at kind) (drop k numbers))
      → turns_of new ≡ with_turn turn_merging (turn_at kind (get_or numbers (k - 1) d)) (turns_of old)
      → turns_of new ≡ tidy turn_merging (map (turn_at kind) (drop (k - 1) numbers))
  unfolding tidy
  tidy-more numbers k d old new p l e h =
      h ∙ ap (with_turn turn_merging (turn_at kind (get_or numbers (k - 1) d))) e
      ∙ sym (ap (λ ns. tidy turn_merging (map (turn_at kind) ns)) (one-earlier numbers k d p l))

  -- one turn more is taken back
  pub back-more : (numbers : List ℕ) (k d : ℕ) → 0 < k → k ≤ length numbers
      → back opposite (map (turn_at kind) (drop (k - 1) numbers))
      ≡ back opposite (map (turn_at kind) (drop k numbers)) ++ opposite (turn_at kind (get_or numbers (k - 1) d)) ∷ []
  back-more numbers k d p l =
      ap (λ ns. back opposite (map (turn_at kind) ns)) (one-earlier numbers k d p l)
      ∙ back-first opposite (turn_at kind (get_or numbers (k - 1) d)) (map (turn_at kind) (drop k numbers))

pub no-numbers : (ns : List ℕ) → (0 < length ns → ⊥) → ns ≡ []
no-numbers [] n = refl
no-numbers (t ∷ ts) n = absurd (n (omega arith))
