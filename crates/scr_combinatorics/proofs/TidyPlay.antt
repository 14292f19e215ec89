-- A tidied word does what the word does, wherever that is defined.
use Rattle.std.proofs.Common.{arith, ◌≡◌, Bool, true, false, List, [], ◌∷◌, Option, Some, refl, ap, ◌∙◌}
use Rattle.scr_combinatorics.specs.Play.{play}
use Rattle.scr_combinatorics.specs.Tidy.{Merging, with_turn, tidy, begins_alike, IsKeptByTidy}
use Rattle.scr_combinatorics.specs.Lawful.{IsLawful}
use Rattle.scr_combinatorics.proofs.PlayLaws.{play-first, play-parts, play-append}
use Rattle.scr_combinatorics.proofs.TidyLaws.{with_turn-alike, with_turn-apart}

module _ {S T : Type 0} (after : S → T → Option S) (opposite : T → T) (m : Merging T) (IsValid : S → Type 0)
    (l : IsLawful after opposite m IsValid) where
  with_turn_by : (s r q : S) (t u : T) (w : List T) (b : Bool) → m.alike t u ≡ b → IsValid s → after s t ≡ Some r
      → play after r (u ∷ w) ≡ Some q → play after s (with_turn m t (u ∷ w)) ≡ Some q
  unfolding begins_alike
  with_turn_by s r q t u w true a v e p = grind (arith, play-parts, with_turn-alike, play-append)
  with_turn_by s r q t u w false a v e p = grind (arith, with_turn-apart, play-first)

  play-with_turn : (s r q : S) (t : T) (w : List T) → IsValid s → after s t ≡ Some r → play after r w ≡ Some q
      → play after s (with_turn m t w) ≡ Some q
  unfolding begins_alike
  play-with_turn s r q t [] v e p = ap (play after s) (with_turn-apart m t [] refl) ∙ play-first after s r t [] e ∙ p
  play-with_turn s r q t (u ∷ w) v e p = with_turn_by s r q t u w (m.alike t u) refl v e p

  pub IsKeptByTidy-lawful : IsKeptByTidy after m IsValid
  unfolding tidy
  IsKeptByTidy-lawful s r [] v e = e
  IsKeptByTidy-lawful s r (t ∷ w) v e =
      let parts = play-parts after s r t w e in
      play-with_turn s parts.0 r t (tidy m w) v parts.1
      (IsKeptByTidy-lawful parts.0 r w (l.keeps s parts.0 t v parts.1) parts.2)
