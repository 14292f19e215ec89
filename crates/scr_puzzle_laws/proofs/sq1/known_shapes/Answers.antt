use Rattle.std.proofs.Common.{[], ◌∷◌, refl}
use Rattle.scr_sq1.proofs.HalfNumbers.{shape_number-known}
use Rattle.scr_puzzle_laws.proofs.Sq1OnLiterals.{sq1_on_literals}
use Rattle.scr_puzzle_laws.proofs.sq1.known_shapes.Goals as goal

pub returns-clause-corner_second : goal.returns-clause-corner_second
unfolding sq1_on_literals
returns-clause-corner_second c = record { consists = refl; numbered = shape_number-known (2 ∷ 3 ∷ 12 ∷ 12 ∷ []) 143 refl refl refl refl }

pub returns-clause-corner_third : goal.returns-clause-corner_third
unfolding sq1_on_literals
returns-clause-corner_third c = record { consists = refl; numbered = shape_number-known (3 ∷ 2 ∷ 12 ∷ 12 ∷ []) 265 refl refl refl refl }

pub returns-clause-corner_first : goal.returns-clause-corner_first
unfolding sq1_on_literals
returns-clause-corner_first c = record { consists = refl; numbered = shape_number-known (1 ∷ 4 ∷ 12 ∷ 12 ∷ []) 21 refl refl refl refl }

pub returns-clause-corner_last : goal.returns-clause-corner_last
unfolding sq1_on_literals
returns-clause-corner_last c = record { consists = refl; numbered = shape_number-known (5 ∷ 11 ∷ 12 ∷ 10 ∷ []) 585 refl refl refl refl }

pub returns-clause-two_corners : goal.returns-clause-two_corners
unfolding sq1_on_literals
returns-clause-two_corners c = record { consists = refl; numbered = shape_number-known (6 ∷ 7 ∷ 8 ∷ 9 ∷ []) 760 refl refl refl refl }

pub returns-clause-no_corner : goal.returns-clause-no_corner
unfolding sq1_on_literals
returns-clause-no_corner c = record { consists = refl; numbered = shape_number-known (0 ∷ 12 ∷ 12 ∷ 11 ∷ []) 17 refl refl refl refl }
