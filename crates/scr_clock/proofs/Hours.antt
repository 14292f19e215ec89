-- The fourteen dials of a Clock, written out.
use Rattle.std.proofs.Common.{◌≡◌, ℕ, ◌%◌, ◌<◌, List, [], ◌∷◌, get_or, sym, subst, arith}
use Rattle.std.proofs.lemmas.List.FromFn.{fill_by_all}
use Rattle.scr_clock.specs.Dials.{IsClock}
use Rattle.scr_clock.proofs.TurnLaws.{hour_at}

-- hours from 0 to 11, one for each place
pub record Hours : Type 0 where
  pub at : ℕ → ℕ
  pub low : (k : ℕ) → at k < 12

-- the hours at the places of the dials
abbrev pub listed : Hours → List ℕ
listed h =
    h.at 0 ∷ h.at 1 ∷ h.at 2 ∷ h.at 3 ∷ h.at 4 ∷ h.at 5 ∷ h.at 6 ∷ h.at 7 ∷ h.at 8 ∷ h.at 9 ∷ h.at 10 ∷ h.at 11 ∷ h.at 12 ∷ h.at 13 ∷ []

-- what holds of fourteen hours written out holds of the dials of each Clock
pub clock_by_dials : (P : List ℕ → Type 0) → ((h : Hours) → P (listed h)) → (dials : List ℕ) → IsClock dials → P dials
clock_by_dials P holds dials c =
    let hours : Hours = record { at = λ k. get_or dials k 0 % 12; low = λ k. omega arith } in
    let same : dials ≡ listed hours = fill_by_all hours.at dials 14 0 c.fourteen (λ k l. (let h = hour_at dials k c l in omega arith)) in
    subst P (sym same) (holds hours)

-- lists with the same first and the same rest
pub cons_same : {x y : ℕ} {xs ys : List ℕ} → x ≡ y → xs ≡ ys → x ∷ xs ≡ y ∷ ys
cons_same e f = cc
