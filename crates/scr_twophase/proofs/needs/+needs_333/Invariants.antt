use Rattle.std.proofs.Common.{◌≡◌, ℕ, ◌<◌, ◌-◌, Some}
use Rattle.scr_table.specs.Moves.{NeedsTurns}
use Rattle.scr_cube.specs.Cube333.{CubeState}
use Rattle.scr_search.specs.Orderly.{after_turn}
use Rattle.scr_twophase.specs.Minima.{face_moves}
use Rattle.scr_twophase.proofs.needs.+needs_333.Given as goal

abbrev pub decreases-needs_333 : goal.decreases-needs_333
decreases-needs_333 l = l.least

abbrev pub invariant-loop-turn : goal.invariant-loop-turn
invariant-loop-turn l =
    (t : ℕ) → t < l.turn → (next : CubeState) → after_turn l.cube t ≡ Some next → NeedsTurns face_moves next (l.least - 1)
