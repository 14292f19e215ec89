use Rattle.std.proofs.Common.{◌≡◌, ◌⊎◌, Bool, true, false, inl, inr, refl}
use Rattle.std.specs.Prelude.{codes, ◌||◌}
use Rattle.std.proofs.lemmas.Slice.Eq.{bytes_eq-Decides}
use Rattle.scr_laws.proofs.command.words_that_have_options.Goals as goal

one_of_two : (a b : Bool) → (a || b) ≡ true → (a ≡ true) ⊎ (b ≡ true)
one_of_two true b is = inl refl
one_of_two false b is = inr is

pub returns-clause-first : goal.returns-clause-first
returns-clause-first c = λ first others asks.
    elim (one_of_two _ _ asks) [
      | inl sheet ↦ inl ((bytes_eq-Decides first (codes "sheet")).0 sheet)
      | inr check ↦ inr ((bytes_eq-Decides first (codes "check")).0 check)
    ]

pub returns-clause-none : goal.returns-clause-none
returns-clause-none c = λ asks. asks
