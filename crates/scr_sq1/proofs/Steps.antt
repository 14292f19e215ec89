-- The steps of the loops over units, as facts about lists.
use Rattle.std.proofs.Common.{rules}
use Rattle.std.proofs.Common.{◌≡◌, ℕ, ◌<◌, List, length, slice_index, sym, ◌∙◌, arith}
use Rattle.std.proofs.lemmas.List.{ext_get_or}
use Rattle.scr_combinatorics.specs.Lists.{pick}
use Rattle.scr_combinatorics.proofs.Picks.{length-pick, pick-at}
use Rattle.scr_sq1.specs.Units.{place_before, turn_places}
use Rattle.scr_sq1.proofs.Places.{places_by-at}

-- units that have at each place what is picked there
pub picked_by_units : (units places out : List ℕ) → length places ≡ 24 → length out ≡ 24
    → ((k : ℕ) → k < 24 → slice_index out k ≡ slice_index units (slice_index places k)) → out ≡ pick units places
picked_by_units units places out told size filled =
    ext_get_or 0 out (pick units places) (size ∙ sym told ∙ sym (length-pick units places)) (λ k lt.
    filled k (omega arith) ∙ sym (pick-at units places k (omega arith)))

-- the same where the layers are turned
pub turned_by_units : (units out : List ℕ) (n m : ℕ) → length out ≡ 24
    → ((k : ℕ) → k < 24 → slice_index out k ≡ slice_index units (place_before n m k)) → out ≡ pick units (turn_places n m)
unfolding turn_places
turned_by_units units out n m size filled = search (arith, rules, picked_by_units, places_by-at)
