-- What holds of a puzzle of powers, from one test of its generators.
use Rattle.std.proofs.Common.{◌≡◌, ◌≤◌, Bool, true, length}
use Rattle.std.specs.Prelude.{◌&&◌}
use Rattle.std.specs.List.{list_all}
use Rattle.scr_combinatorics.specs.PowerLetters.{AreNumbered}
use Rattle.scr_combinatorics.specs.Tidy.{Merging}
use Rattle.scr_combinatorics.proofs.PowerLetterLaws.{ArePowers}
use Rattle.scr_orbit.specs.Monoids.{IsMonoid}
use Rattle.scr_orbit.specs.PowerPuzzles.{PowerPuzzle, IsPowerPuzzle, all_turns}
use Rattle.scr_orbit.proofs.Orders.{TellsSolved, has_order, All-generators, All-ordered}
use Rattle.scr_orbit.proofs.PowerLaws.{HasLawfulTurns-powers}
use Rattle.scr_orbit.proofs.NumberedTurns.{all_powers-numbered, number_of_turn, no_more_turns}

-- letters that are powers, opposite and merged as powers are, and numbered
pub record AreLetters {S T : Type 0} (p : PowerPuzzle S T) (opposite : T → T) (merging : Merging T) : Type 0 where
  pub numbered : AreNumbered p.letters
  pub powers : ArePowers p.letters.order p.letters.power_at opposite merging
  pub few : length p.generators ≤ p.letters.most

pub IsPowerPuzzle-from_test : {S T : Type 0} (p : PowerPuzzle S T) (IsValid : S → Type 0) {opposite : T → T} {merging : Merging T}
    → AreLetters p opposite merging → IsMonoid p.monoid IsValid → (test : S → Bool) → TellsSolved p.monoid test
    → (is_valid : S → Bool) → ((r : S) → is_valid r ≡ true → IsValid r)
    → list_all (λ r. is_valid r && has_order p.monoid test p.letters.order r) p.generators ≡ true
    → IsPowerPuzzle p IsValid opposite merging
unfolding all_turns
IsPowerPuzzle-from_test p IsValid {opposite = opposite} {merging = merging} l joined test tells is_valid shows all =
    let order = p.letters.order in
    let generators = All-generators p.monoid test tells IsValid is_valid shows order p.generators all in
    record {
      lawful = HasLawfulTurns-powers p.monoid IsValid joined order p.generators generators p.letters.power_at opposite merging l.powers;
      orders = All-ordered p.monoid test tells IsValid is_valid shows order p.generators all;
      numbered = all_powers-numbered p.letters l.numbered p.monoid p.generators l.few;
      numbers = number_of_turn p.letters l.numbered p.monoid p.generators l.few;
      no_more = no_more_turns p.letters l.numbered p.monoid p.generators l.few;
    }
