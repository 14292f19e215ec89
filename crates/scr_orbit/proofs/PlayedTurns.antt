-- Puzzles of powers play the letters that a test of powers tells, and no others.
use Rattle.std.proofs.Common.{◌≡◌, ◌↔◌, inl, inr, Bool, IsTrue, IsSome, List, length, Some, ap, ◌∙◌, arith}
use Rattle.std.specs.Prelude.{option_and_then}
use Rattle.std.specs.List.{AllPass}
use Rattle.std.specs.Option.{option_map}
use Rattle.std.proofs.lemmas.Option.{slice_get_within, slice_get_cases}
use Rattle.scr_combinatorics.specs.Play.{play}
use Rattle.scr_combinatorics.specs.Tidy.{Merging}
use Rattle.scr_combinatorics.proofs.PlayLaws.{and_then-some, map-some}
use Rattle.scr_combinatorics.proofs.PlayedWhere.{TellsTurns, played-iff}
use Rattle.scr_combinatorics.proofs.PowerLetterLaws.{TellsPowers}
use Rattle.scr_orbit.specs.Monoids.{power, power_of}
use Rattle.scr_orbit.specs.PowerPuzzles.{PowerPuzzle, IsPowerPuzzle, letter_table, after_letter}

module _ {S T : Type 0} (p : PowerPuzzle S T) (test : T → Bool) (tells : TellsPowers p.letters.power_at (length p.generators) test) where
  in_table : (t : T) → IsTrue (test t) → (r : S) × (letter_table p t ≡ Some r)
  unfolding power_of
  in_table t h =
      let found = tells.powers t h in
      elim (slice_get_cases p.generators found.0.generator).1 [
        | inl at ↦ (
          power p.monoid at.0 found.0.exponent,
          ap (option_and_then (power_of p.monoid p.generators)) found.1 ∙ ap (option_map (λ r. power p.monoid r found.0.exponent)) at.2,
        )
        | inr past ↦ absurd (omega (arith, past.0, found.2))
      ]

  is_turn : (t : T) (r : S) → letter_table p t ≡ Some r → IsTrue (test t)
  unfolding power_of
  is_turn t r e = grind (arith, and_then-some, map-some, slice_get_within)

  pub TellsTurns-powers : {IsValid : S → Type 0} {opposite : T → T} {merging : Merging T}
      → IsPowerPuzzle p IsValid opposite merging → TellsTurns (after_letter p) IsValid test
  TellsTurns-powers law = record {
    does = λ s t own h. let r = in_table t h in (p.monoid.turned s r.0, ap (option_map (p.monoid.turned s)) r.1);
    only = λ s r t own e. let q = map-some (p.monoid.turned s) (letter_table p t) r e in is_turn t q.0 q.1;
    keeps = law.lawful.kept;
  }

  -- so from valid states words are defined exactly where the test is true of all their letters
  pub plays_turns : {IsValid : S → Type 0} {opposite : T → T} {merging : Merging T}
      → IsPowerPuzzle p IsValid opposite merging → (s : S) (w : List T) → IsValid s
      → IsSome (play (after_letter p) s w) ↔ AllPass test w
  plays_turns law = played-iff (TellsTurns-powers law)
