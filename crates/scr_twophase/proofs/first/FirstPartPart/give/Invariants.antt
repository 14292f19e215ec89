use Rattle.std.proofs.Common.{◌≡◌, drop}
use Rattle.scr_combinatorics.specs.Play.{play}
use Rattle.scr_cube.specs.Cube333.{CubeState}
use Rattle.scr_search.specs.Orderly.{after_turn}
use Rattle.scr_twophase.proofs.first.FirstPartPart.give.Given as goal

abbrev pub invariant-loop-turn : goal.invariant-loop-turn
invariant-loop-turn l =
    (there : CubeState) × (play after_turn there (drop l.turn-index l.turn-items) ≡ play after_turn l.cube l.turn-items)
    × (l.corners ≡ there.corners.pieces) × (l.edges ≡ there.edges.pieces)
