-- Turns of a Pyraminx by their numbers: large ones, and those of tips.
use Rattle.std.proofs.Common.{◌≡◌, ℕ, ◌+◌, ◌<◌, List, ◌++◌, Some, map, length, refl, sym, ap, ◌∙◌, arith}
use Rattle.std.specs.Prelude.{slice_get}
use Rattle.std.specs.Option.{option_map}
use Rattle.std.proofs.lemmas.List.{length-map}
use Rattle.std.proofs.lemmas.Option.{slice_get-map}
use Rattle.scr_combinatorics.proofs.PlayLaws.{map-some}
use Rattle.scr_orbit.specs.Orbits.{added_digits}
use Rattle.scr_orbit.specs.PowerPuzzles.{letter_table, after_letter, all_turns, part_turns}
use Rattle.scr_orbit.proofs.InPlaceLaws.{added_digits-still}
use Rattle.scr_orbit.proofs.Parts.{IsMadeAt}
use Rattle.scr_orbit.proofs.PowerLaws.{get-append, get-append_past}
use Rattle.scr_orbit.proofs.TurnedAt.{IsTurned, IsTurned-at}
use Rattle.scr_notation.specs.TurnNumbers.{axis_turn_at}
use Rattle.scr_tetra.specs.Pyraminx.{TetraminxState, tetraminx_monoid, tetraminx_powers, PyramState, IsPyram, pyram_powers}
use Rattle.scr_tetra.proofs.PyramLaws.{large_turn, tip_turn, same_pyram, tetraminx_laws, lawful_tetraminx, lawful_pyram}
use Rattle.scr_tetra.proofs.PyramLiterals.{pyram_on_literals}

-- the turns are those without tips, and then those of the tips
turns_in_order : (all_turns pyram_powers) ≡ map large_turn (all_turns tetraminx_powers) ++ map tip_turn (part_turns (λ r. r.axials) tetraminx_powers)
unfolding pyram_on_literals
turns_in_order = refl

eight_turns : length (all_turns tetraminx_powers) ≡ 8
unfolding pyram_on_literals
eight_turns = refl

eight_large : length (map large_turn (all_turns tetraminx_powers)) ≡ 8
eight_large = length-map (all_turns tetraminx_powers) large_turn ∙ eight_turns

pub large_at : (n : ℕ) → n < 8
    → slice_get (all_turns pyram_powers) n ≡ option_map large_turn (slice_get (all_turns tetraminx_powers) n)
large_at n l =
    ap (λ xs. slice_get xs n) turns_in_order
    ∙ get-append (map large_turn (all_turns tetraminx_powers)) (map tip_turn (part_turns (λ r. r.axials) tetraminx_powers)) n (omega (arith, eight_large))
    ∙ slice_get-map large_turn (all_turns tetraminx_powers) n

pub tip_at : (n k : ℕ) → n ≡ 8 + k
    → slice_get (all_turns pyram_powers) n ≡ option_map tip_turn (slice_get (part_turns (λ r. r.axials) tetraminx_powers) k)
tip_at n k e =
    ap (λ xs. slice_get xs n) turns_in_order
    ∙ get-append_past (map large_turn (all_turns tetraminx_powers)) (map tip_turn (part_turns (λ r. r.axials) tetraminx_powers)) n k (omega (arith, eight_large))
    ∙ slice_get-map tip_turn (part_turns (λ r. r.axials) tetraminx_powers) k

-- the state after a large turn is that without tips, with the old tips
pub pyram_large : (s : PyramState) (body b : TetraminxState) (tips : List ℕ) (n : ℕ) → body ≡ s.body → tips ≡ s.tips
    → IsPyram s → n < 8 → (after_letter tetraminx_powers) body (axis_turn_at n) ≡ Some b
    → IsTurned pyram_powers IsPyram s n (record { body = b; tips = tips })
pyram_large s body b tips n fb ft own l after =
    let turn = map-some (tetraminx_monoid.turned body) (letter_table tetraminx_powers (axis_turn_at n)) b after in
    IsTurned-at pyram_powers lawful_pyram s (record { body = b; tips = tips }) n own (large_turn turn.0)
    (large_at n l ∙ ap (option_map large_turn) (lawful_tetraminx.numbered n ∙ turn.1))
    (same_pyram _ (record { body = b; tips = tips }) (ap (λ x. tetraminx_monoid.turned x turn.0) (sym fb) ∙ turn.2) (added_digits-still 4 3 s.tips own.tips ∙ sym ft))

-- and after a turn of a tip it has the same body
pub pyram_tip : (s : PyramState) (body : TetraminxState) (tips : List ℕ) (n k : ℕ) → body ≡ s.body → IsPyram s
    → n ≡ 8 + k → IsMadeAt (part_turns (λ r. r.axials) tetraminx_powers) k (added_digits 3 s.tips) tips
    → IsTurned pyram_powers IsPyram s n (record { body = body; tips = tips })
pyram_tip s body tips n k same own e made =
    let row = map-some (added_digits 3 s.tips) (slice_get (part_turns (λ r. r.axials) tetraminx_powers) k) tips made.is in
    IsTurned-at pyram_powers lawful_pyram s (record { body = body; tips = tips }) n own (tip_turn row.0) (tip_at n k e ∙ ap (option_map tip_turn) row.1)
    (same_pyram _ (record { body = body; tips = tips }) (tetraminx_laws.solved_last s.body own.body ∙ sym same) row.2)
