-- Each turn of a Square-1 counts once.
use Rattle.std.proofs.Common.{◌≡◌, List, [], ◌∷◌, length, refl, arith}
use Rattle.scr_combinatorics.specs.Play.{count_in}
use Rattle.scr_notation.specs.declared.turn.Turn.{Turn}
use Rattle.scr_sq1.specs.Units.{sq1_puzzle}

pub count_once : (w : List Turn) → count_in sq1_puzzle.counted w ≡ length w
unfolding count_in
count_once [] = refl
count_once (t ∷ w) = omega (arith, count_once w)
