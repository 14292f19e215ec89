-- States of puzzles of powers after turns by their numbers.
use Rattle.std.proofs.Common.{arith, ◌≡◌, ℕ, ◌≤◌, Some, length, ◌∙◌}
use Rattle.std.specs.Prelude.{slice_get}
use Rattle.scr_combinatorics.specs.PowerLetters.{HasGenerators}
use Rattle.scr_combinatorics.specs.Tidy.{Merging}
use Rattle.scr_combinatorics.proofs.PlayLaws.{map-some}
use Rattle.scr_orbit.specs.Monoids.{Monoid}
use Rattle.scr_orbit.specs.PowerPuzzles.{PowerPuzzle, IsPowerPuzzle, after_letter, all_turns, part_turns}
use Rattle.scr_orbit.proofs.Parts.{pair_monoid, IsSeenAs, IsMadeAt, IsMadeAt-part, IsMadeAt-both}
use Rattle.scr_orbit.proofs.PowerLaws.{after-no_power}

module _ {S L : Type 0} (p : PowerPuzzle S L) where
  -- a letter that is a power of none of the generators is no turn
  pub HasGenerators-puzzle : length p.generators ≤ p.letters.most
      → HasGenerators p.letters (length p.generators) (after_letter p)
  HasGenerators-puzzle few = record { few = few; barred = after-no_power p.monoid p.generators p.letters.power_at }

  -- what the turn with a number makes of a state, and it is valid
  pub record IsTurned (IsValid : S → Type 0) (s : S) (n : ℕ) (r : S) : Type 0 where
    pub valid : IsValid r
    pub after : after_letter p s (p.letters.letter_at n) ≡ Some r

  module _ {IsValid : S → Type 0} {opposite : L → L} {merging : Merging L} (law : IsPowerPuzzle p IsValid opposite merging) (s r : S) (n : ℕ) (own : IsValid s) where
    pub IsTurned-at : (q : S) → slice_get (all_turns p) n ≡ Some q → p.monoid.turned s q ≡ r → IsTurned IsValid s n r
    IsTurned-at q there made = grind arith

    pub IsTurned-made : IsMadeAt (all_turns p) n (p.monoid.turned s) r → IsTurned IsValid s n r
    IsTurned-made made = grind (arith, map-some, IsTurned-at)

    -- as it shows
    pub IsTurned-seen : {T : Type 0} {k : Monoid T} {seen : S → T} → IsSeenAs p.monoid k seen
        → IsMadeAt (all_turns p) n (λ q. k.turned (seen s) (seen q)) (seen r) → IsTurned IsValid s n r
    IsTurned-seen {k = k} {seen = seen} are made =
        let q = map-some (λ q. k.turned (seen s) (seen q)) (slice_get (all_turns p) n) (seen r) made.is in
        IsTurned-at q.0 q.1 (are.same _ _ (are.turned s q.0 ∙ q.2))

    -- where it shows as two parts
    pub IsTurned-two : {T U : Type 0} (j : Monoid T) (k : Monoid U) (seen : S → T × U) → IsSeenAs p.monoid (pair_monoid j k) seen
        → IsMadeAt (part_turns (λ q. (seen q).0) p) n (j.turned (seen s).0) (seen r).0
        → IsMadeAt (part_turns (λ q. (seen q).1) p) n (k.turned (seen s).1) (seen r).1 → IsTurned IsValid s n r
    IsTurned-two j k seen are first second =
        IsTurned-seen are
        (IsMadeAt-both (IsMadeAt-part (λ q. (seen q).0) (all_turns p) first) (IsMadeAt-part (λ q. (seen q).1) (all_turns p) second))
