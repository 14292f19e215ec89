use Rattle.std.proofs.Common.{[], ◌∷◌, refl, ap}
use Rattle.scr_combinatorics.specs.Digits.{mixed_number}
use Rattle.scr_sq1.proofs.HalfNumbers.{shape_number-known}
use Rattle.scr_sq1.proofs.Numbering.{sq1_bases}
use Rattle.scr_puzzle_laws.proofs.Sq1OnLiterals.{sq1_on_literals}
use Rattle.scr_puzzle_laws.proofs.sq1.known_numbers.Goals as goal

pub returns-clause-solved_number : goal.returns-clause-solved_number
unfolding sq1_on_literals
returns-clause-solved_number c =
    ap (λ shape. mixed_number sq1_bases (0 ∷ 0 ∷ 0 ∷ shape ∷ []))
    (shape_number-known (7 ∷ 7 ∷ 10 ∷ 10 ∷ []) 1172 refl refl refl refl)
