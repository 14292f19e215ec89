-- The 2x2x2 is a numbered puzzle, whose twists and list of corners turns move each by itself.
use Rattle.std.proofs.Common.{[], ◌∷◌, slice_index, refl, ap, lit≤, lit<}
use Rattle.scr_combinatorics.specs.Lists.{pick}
use Rattle.scr_combinatorics.specs.Permutations.{permutation_number, permutation_at}
use Rattle.scr_combinatorics.specs.Twists.{twists_number, twists_at}
use Rattle.scr_combinatorics.proofs.Twists.{twists_number-lt}
use Rattle.scr_notation.specs.TurnNumbers.{turn_at}
use Rattle.scr_orbit.specs.Orbits.{turned_orbit, solved_orbit, added_digits}
use Rattle.scr_cube.specs.Cube222.{IsCorners222, powers_222, numbered_222, digits_222, corners_of_digits}
use Rattle.scr_cube.proofs.Numbered222.{numbering_222}
use Rattle.scr_cube.proofs.Laws222.{lawful_222}
use Rattle.scr_small.specs.LawfulPuzzles.{IsNumberedPuzzle}
use Rattle.scr_small.specs.Puzzles.{numbered_puzzle_222}
use Rattle.scr_small.specs.StateParts.{MovesByParts}
use Rattle.scr_small.proofs.PartLaws.{AreParts, MovesByParts-powers}
use Rattle.scr_small.proofs.DigitParts.{AreParts-digits}
use Rattle.scr_small.specs.Tables.{state_table_222}
use Rattle.scr_small.specs.SolvedByTable.{IsSolvedByTable}
use Rattle.scr_small.proofs.TurnedByPowers.{IsNumberedPuzzle-powers, IsSolvedByTable-powers}

pub lawful_puzzle_222 : IsNumberedPuzzle numbered_puzzle_222
lawful_puzzle_222 = IsNumberedPuzzle-powers numbered_222 powers_222 numbering_222 lawful_222

-- ---- the twists and the list of corners

told_222 : AreParts numbered_222 729 (λ o. o.digits) (λ o. o.pieces)
unfolding corners_of_digits digits_222
told_222 =
    AreParts-digits (729 ∷ []) 5040 corners_of_digits digits_222 IsCorners222 (λ o. o.digits) (λ o. o.pieces)
    (λ ds. twists_number 3 ds ∷ []) permutation_number (λ ds. twists_at 7 3 (slice_index ds 0)) (permutation_at 7) (lit< tt)
    (λ i. refl) (λ i. refl) (λ s. refl) (λ s valid. (twists_number-lt 7 3 s.digits valid.digits, tt))

pub parts_222 : MovesByParts numbered_puzzle_222 729 5040
unfolding turned_orbit
parts_222 =
    MovesByParts-powers numbered_222 powers_222 lawful_puzzle_222 729 5040 refl (λ o. o.digits) (λ o. o.pieces) told_222
    (λ s r x e. ap (λ digits. added_digits 3 (pick digits x.pieces) x.digits) e) (λ s r x e. ap (λ pieces. pick pieces x.pieces) e)

-- ---- its table

pub solved_by_table_222 : IsSolvedByTable numbered_puzzle_222 state_table_222
unfolding turn_at solved_orbit digits_222
solved_by_table_222 =
    IsSolvedByTable-powers numbered_222 powers_222 state_table_222 lawful_puzzle_222 parts_222 refl refl refl
    (lit≤ tt, lit≤ tt, lit< tt, lit≤ tt)
