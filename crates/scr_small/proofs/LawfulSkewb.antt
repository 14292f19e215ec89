-- The Skewb is a numbered puzzle, whose corners and centres turns move each by themselves.
use Rattle.std.proofs.Common.{lit≤, lit<, ◌++◌, ◌/◌, [], ◌∷◌, refl, ap}
use Rattle.scr_combinatorics.specs.Permutations.{permutation_number}
use Rattle.scr_combinatorics.specs.Digits.{mixed_number}
use Rattle.scr_notation.specs.TurnNumbers.{turn_at}
use Rattle.scr_orbit.specs.Orbits.{Orbit, turned_orbit, solved_orbit}
use Rattle.scr_tetra.specs.Skewb.{SkewbState, IsSkewb, skewb_powers, skewb_numbered, skewb_digits, skewb_of_digits, solved_skewb}
use Rattle.scr_tetra.proofs.NumberedSkewb.{skewb_numbering, AreDigits-skewb}
use Rattle.scr_tetra.proofs.SkewbLaws.{lawful_skewb}
use Rattle.scr_small.specs.LawfulPuzzles.{IsNumberedPuzzle}
use Rattle.scr_small.specs.Puzzles.{numbered_puzzle_skewb}
use Rattle.scr_small.specs.StateParts.{MovesByParts}
use Rattle.scr_small.proofs.PartLaws.{AreParts, MovesByParts-powers}
use Rattle.scr_small.proofs.DigitParts.{AreParts-digits}
use Rattle.scr_small.specs.Tables.{state_table_skewb}
use Rattle.scr_small.specs.SolvedByTable.{IsSolvedByTable}
use Rattle.scr_small.proofs.TurnedByPowers.{IsNumberedPuzzle-powers, IsSolvedByTable-powers}

pub lawful_puzzle_skewb : IsNumberedPuzzle numbered_puzzle_skewb
lawful_puzzle_skewb = IsNumberedPuzzle-powers skewb_numbered skewb_powers skewb_numbering lawful_skewb

-- ---- the corners and the centres

abbrev corners_of : SkewbState → Orbit × Orbit
corners_of s = (s.four, s.three)

told_skewb : AreParts skewb_numbered 8748 corners_of (λ s. s.centres)
unfolding skewb_of_digits skewb_digits
told_skewb =
    AreParts-digits (81 ∷ 9 ∷ 12 ∷ []) 360 skewb_of_digits skewb_digits IsSkewb corners_of (λ s. s.centres)
    (λ q. mixed_number (3 ∷ 3 ∷ 3 ∷ 3 ∷ []) q.0.digits ∷ mixed_number (3 ∷ 3 ∷ []) q.1.digits ∷ permutation_number q.0.pieces / 2 ∷ [])
    (λ o. permutation_number o.pieces / 2) (λ ds. corners_of (skewb_of_digits (ds ++ 0 ∷ [])))
    (λ d. (skewb_of_digits (0 ∷ 0 ∷ 0 ∷ d ∷ [])).centres)
    (lit< tt) (λ i. refl) (λ i. refl) (λ s. refl)
    (λ s valid. let below = AreDigits-skewb s valid in (below.0, (below.1.0, (below.1.1.0, tt))))

pub parts_skewb : MovesByParts numbered_puzzle_skewb 8748 360
parts_skewb =
    MovesByParts-powers skewb_numbered skewb_powers lawful_puzzle_skewb 8748 360 refl corners_of (λ s. s.centres)
    told_skewb
    (λ s r x e. ap (λ (q : Orbit × Orbit). (turned_orbit 3 q.0 x.four, turned_orbit 3 q.1 x.three)) e)
    (λ s r x e. ap (λ o. turned_orbit 1 o x.centres) e)

-- ---- its table

pub solved_by_table_skewb : IsSolvedByTable numbered_puzzle_skewb state_table_skewb
unfolding turn_at solved_skewb solved_orbit skewb_digits
solved_by_table_skewb =
    IsSolvedByTable-powers skewb_numbered skewb_powers state_table_skewb lawful_puzzle_skewb parts_skewb refl refl refl
    (lit≤ tt, lit≤ tt, lit< tt, lit≤ tt)
