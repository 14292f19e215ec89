-- Laws of pieces that turn at their places.
use Rattle.std.proofs.Common.{arith, ◌≡◌, ℕ, ◌<◌, List, Some, length, get_or, sym, ap, ◌∙◌}
use Rattle.std.specs.Prelude.{slice_get}
use Rattle.std.proofs.lemmas.Option.{slice_get-get_or}
use Rattle.scr_combinatorics.specs.Lists.{numbers_from, pick}
use Rattle.scr_combinatorics.proofs.Picks.{pick-in_order, length-numbers_from}
use Rattle.scr_orbit.specs.Monoids.{IsMonoid}
use Rattle.scr_orbit.specs.Orbits.{added_digits, zeros}
use Rattle.scr_orbit.specs.InPlace.{AreDigitsInPlace, in_place_monoid}
use Rattle.scr_orbit.proofs.Parts.{IsMadeAt}
use Rattle.scr_orbit.proofs.DigitLaws.{length-added_digits, All-added_digits, added_digits-assoc, length-zeros, All-zeros, added_digits-zeros, added_digits-to_zeros}

AreDigitsInPlace-added : (n m : ℕ) (ds es : List ℕ) → 0 < m → AreDigitsInPlace n m ds → AreDigitsInPlace n m es
    → AreDigitsInPlace n m (added_digits m ds es)
AreDigitsInPlace-added n m ds es pos a b = grind (arith, length-added_digits, All-added_digits)

pub AreDigitsInPlace-zeros : (n m : ℕ) → 0 < m → AreDigitsInPlace n m (zeros n)
AreDigitsInPlace-zeros n m pos = record { size = length-zeros n; below = All-zeros m n pos }

-- zeros change nothing
pub added_digits-still : (n m : ℕ) (ds : List ℕ) → AreDigitsInPlace n m ds → added_digits m ds (zeros n) ≡ ds
added_digits-still n m ds a = ap (λ k. added_digits m ds (zeros k)) (sym a.size) ∙ added_digits-zeros m ds a.below

from_zeros : (n m : ℕ) (ds : List ℕ) → AreDigitsInPlace n m ds → added_digits m (zeros n) ds ≡ ds
from_zeros n m ds a =
    ap (λ xs. added_digits m xs ds) (sym (ap (λ k. pick (zeros n) (numbers_from 0 k)) (sym (length-zeros n)) ∙ pick-in_order (zeros n)))
    ∙ added_digits-to_zeros m n (numbers_from 0 n) ds a.below (length-numbers_from 0 n ∙ sym a.size)

pub in_place_laws : (n m : ℕ) → 0 < m → IsMonoid (in_place_monoid n m) (AreDigitsInPlace n m)
in_place_laws n m pos =
    grind (arith, AreDigitsInPlace-added, AreDigitsInPlace-zeros, added_digits-assoc, from_zeros, added_digits-still)

-- a row of a table, and the digits after a turn that is read from it
row-at : (rows all : List (List ℕ)) (k : ℕ) (d : List ℕ) → rows ≡ all → k < length rows
    → slice_get all k ≡ Some (get_or rows k d)
row-at rows all k d e lt = ap (λ xs. slice_get xs k) (sym e) ∙ slice_get-get_or rows k d lt

pub added-at : {all : List (List ℕ)} {ds from to : List ℕ} (m : ℕ) (rows : List (List ℕ)) (k : ℕ) (d : List ℕ)
    → from ≡ ds → rows ≡ all → k < length rows → to ≡ added_digits m from (get_or rows k d)
    → IsMadeAt all k (added_digits m ds) to
added-at {all = all} {ds = ds} m rows k d same e lt made = grind (arith, row-at)
