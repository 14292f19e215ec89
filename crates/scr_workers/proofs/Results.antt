-- Where each slot has one answer, what workers leave is told by that.
use Rattle.std.proofs.Common.{◌≡◌, ℕ, ◌<◌, List, length, sym, subst, ap, ◌∙◌}
use Rattle.std.specs.Prelude.{Option, Some, None, IsSomeAnd}
use Rattle.std.proofs.lemmas.List.{ext_get_or}
use Rattle.scr_workers.specs.Answered.{AreAnswered, HaveOneAnswer}

module _ {T : Type 0} where
  same-place : (IsAnswer : T → Type 0) → ((one other : T) → IsAnswer one → IsAnswer other → one ≡ other)
      → (place at : Option T) → IsSomeAnd place IsAnswer → IsSomeAnd at IsAnswer → place ≡ at
  same-place IsAnswer only None at answered answered' = absurd answered
  same-place IsAnswer only (Some one) None answered answered' = absurd answered'
  same-place IsAnswer only (Some one) (Some other) answered answered' = ap Some (only one other answered answered')

  pub same-results : (slots : ℕ) (IsAnswer : ℕ → T → Type 0) → HaveOneAnswer slots IsAnswer → (out other : List (Option T))
      → length out ≡ slots → length other ≡ slots → AreAnswered IsAnswer out → AreAnswered IsAnswer other → out ≡ other
  same-results slots IsAnswer only out other len len' answered answered' =
      ext_get_or None out other (len ∙ sym len') (λ k below.
      same-place (IsAnswer k) (λ one next. only k one next (subst (λ n. k < n) len below)) _ _ (answered k below)
      (answered' k (subst (λ n. k < n) (len ∙ sym len') below)))
