use Rattle.std.proofs.Common.{ℕ, map, slice_index, sym, ◌∙◌, subst, arith}
use Rattle.std.proofs.lemmas.List.{ext_get_or, get_or-map, length-map}
use Rattle.scr_combinatorics.specs.Pairings.{IsPairing}
use Rattle.scr_combinatorics.specs.Permutations.{place_of}
use Rattle.scr_sq1tables.specs.Tables.{carried_pairing}
use Rattle.scr_sq1tables.proofs.Codes.{IsPairing-carried}
use Rattle.scr_sq1tables.proofs.pieces.carried_pairing.Goals as goal

pub returns-clause-value : goal.returns-clause-value
unfolding carried_pairing
returns-clause-value c =
    let places = c.args.places.now in
    let partner : ℕ → ℕ = λ place. place_of (slice_index c.args.partners.now place) places in
    let size = c.loop-place.invariant.size ∙ sym c.requires.places.size in
    ext_get_or 0 c.loop-place.carried (map partner places) (size ∙ sym (length-map places partner)) (λ k lt.
    c.loop-place.invariant.filled k (omega (arith, lt, c.loop-place.invariant.size)) ∙ sym (get_or-map partner places k 0 0 (omega (arith, lt, size))))

pub returns-clause-valid : goal.returns-clause-valid
returns-clause-valid c =
    subst (IsPairing 8) (sym (returns-clause-value c)) (IsPairing-carried c.args.partners.now c.args.places.now c.requires.partners c.requires.places)
