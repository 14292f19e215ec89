-- The Pyraminx without tips is a numbered puzzle: turns move its axial pieces and flips by themselves, and its list of
-- edges.
use Rattle.std.proofs.Common.{lit≤, lit<, ◌++◌, ℕ, ◌/◌, List, [], ◌∷◌, refl, ap}
use Rattle.scr_combinatorics.specs.Lists.{pick}
use Rattle.scr_combinatorics.specs.Permutations.{permutation_number}
use Rattle.scr_combinatorics.specs.Twists.{twists_number}
use Rattle.scr_notation.specs.TurnNumbers.{turn_at}
use Rattle.scr_orbit.specs.Orbits.{turned_orbit, solved_orbit, added_digits}
use Rattle.scr_tetra.specs.Pyraminx.{TetraminxState, IsTetraminx, tetraminx_powers, solved_tetraminx, numbered_tetraminx, tetraminx_digits, tetraminx_of_digits, thirds_number}
use Rattle.scr_tetra.proofs.NumberedPyram.{tetraminx_numbering, tetraminx_has_three}
use Rattle.scr_tetra.proofs.PyramLaws.{lawful_tetraminx}
use Rattle.scr_small.specs.LawfulPuzzles.{IsNumberedPuzzle}
use Rattle.scr_small.specs.Puzzles.{numbered_puzzle_tetraminx}
use Rattle.scr_small.specs.StateParts.{MovesByParts}
use Rattle.scr_small.proofs.PartLaws.{AreParts, MovesByParts-powers}
use Rattle.scr_small.proofs.DigitParts.{AreParts-digits}
use Rattle.scr_small.specs.Tables.{state_table_tetraminx}
use Rattle.scr_small.specs.SolvedByTable.{IsSolvedByTable}
use Rattle.scr_small.proofs.TurnedByPowers.{IsNumberedPuzzle-powers, IsSolvedByTable-powers}

pub lawful_puzzle_tetraminx : IsNumberedPuzzle numbered_puzzle_tetraminx
lawful_puzzle_tetraminx = IsNumberedPuzzle-powers numbered_tetraminx tetraminx_powers tetraminx_numbering lawful_tetraminx

-- ---- how pieces stand turned, and where edges stand

-- the digits of axial pieces, and the flips
abbrev digits_of : TetraminxState → List ℕ × List ℕ
digits_of s = (s.axials, s.edges.digits)

told_tetraminx : AreParts numbered_tetraminx 2592 digits_of (λ s. s.edges.pieces)
unfolding tetraminx_of_digits tetraminx_digits
told_tetraminx =
    AreParts-digits (81 ∷ 32 ∷ []) 360 tetraminx_of_digits tetraminx_digits IsTetraminx digits_of (λ s. s.edges.pieces)
    (λ q. thirds_number q.0 ∷ twists_number 2 q.1 ∷ []) (λ ps. permutation_number ps / 2)
    (λ ds. digits_of (tetraminx_of_digits (ds ++ 0 ∷ []))) (λ d. (tetraminx_of_digits (0 ∷ 0 ∷ d ∷ [])).edges.pieces)
    (lit< tt) (λ i. refl) (λ i. refl) (λ s. refl)
    (λ s valid. let below = (tetraminx_has_three s valid).below in (below.0, (below.1.0, tt)))

pub parts_tetraminx : MovesByParts numbered_puzzle_tetraminx 2592 360
unfolding turned_orbit
parts_tetraminx =
    MovesByParts-powers numbered_tetraminx tetraminx_powers lawful_puzzle_tetraminx 2592 360 refl digits_of
    (λ s. s.edges.pieces) told_tetraminx
    (λ s r x e. ap (λ (q : List ℕ × List ℕ). (added_digits 3 q.0 x.axials, added_digits 2 (pick q.1 x.edges.pieces) x.edges.digits)) e)
    (λ s r x e. ap (λ ps. pick ps x.edges.pieces) e)

-- ---- its table

pub solved_by_table_tetraminx : IsSolvedByTable numbered_puzzle_tetraminx state_table_tetraminx
unfolding turn_at solved_tetraminx solved_orbit tetraminx_digits
solved_by_table_tetraminx =
    IsSolvedByTable-powers numbered_tetraminx tetraminx_powers state_table_tetraminx lawful_puzzle_tetraminx parts_tetraminx refl refl refl
    (lit≤ tt, lit≤ tt, lit< tt, lit≤ tt)
