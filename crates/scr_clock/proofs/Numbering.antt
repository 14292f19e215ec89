-- The numbers of Clocks are one to one.
use Rattle.std.specs.Prelude.{List, ℕ, replicate}
use Rattle.std.proofs.Common.{refl, lit≤}
use Rattle.scr_combinatorics.specs.Numbering.{IsNumbering}
use Rattle.scr_combinatorics.specs.Digits.{AreDigits}
use Rattle.scr_combinatorics.proofs.Digits.{AreDigits-replicate}
use Rattle.scr_combinatorics.proofs.Numberings.{GivesState, HasDigits, numbering_by_digits}
use Rattle.scr_clock.specs.Dials.{IsClock}
use Rattle.scr_clock.specs.Numbers.{clock_numbered}

-- a Clock's digits are its dials
dials_given : (dials : List ℕ) → AreDigits (replicate 14 12) dials
    → GivesState (replicate 14 12) (λ ds. ds) (λ ds. ds) IsClock dials
dials_given dials h =
    let own = (AreDigits-replicate 14 12 dials).0 h in
    record { valid = record { fourteen = own.0; below = own.1 }; again = refl }

dials_had : (dials : List ℕ) → IsClock dials → HasDigits (replicate 14 12) (λ ds. ds) (λ ds. ds) IsClock dials
dials_had dials c = record { below = (AreDigits-replicate 14 12 dials).1 (c.fourteen, c.below); again = refl }

pub clock_numbering : IsNumbering clock_numbered
clock_numbering = numbering_by_digits (replicate 14 12) (λ ds. ds) (λ ds. ds) IsClock (lit≤ tt) (lit≤ tt) dials_given dials_had
