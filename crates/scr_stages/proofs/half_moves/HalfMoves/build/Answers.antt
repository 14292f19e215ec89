use Rattle.std.proofs.Common.{map, sym, ap, ◌∙◌, subst}
use Rattle.scr_orbit.specs.PlaceTurns.{made_by}
use Rattle.scr_positions.specs.Coordinates.{StaysBelow}
use Rattle.scr_positions.specs.Moves.{moves_coordinate}
use Rattle.scr_positions.specs.SearchSpaces.{ShowsSame}
use Rattle.scr_coord.specs.Projections.{projection}
use Rattle.scr_stages.specs.Tetrads.{half_corners_view}
use Rattle.scr_stages.proofs.HalfCubes.{IsHalfBlock-first, IsHalfBlock-second, IsHalfBlock-middle}
use Rattle.scr_stages.proofs.HalfSteps.{StaysBelow-half_corners, All-half_block}
use Rattle.scr_stages.proofs.HalfTurned.{StaysBelow-halves}
use Rattle.scr_stages.proofs.half_moves.HalfMoves.build.Goals as goal

pub new-corners-requires-clause-stays : goal.new-corners-requires-clause-stays
new-corners-requires-clause-stays c =
    subst (λ moves. StaysBelow (projection half_corners_view moves)) (sym c.corners_turned-turns.ensures.turns) StaysBelow-half_corners

pub block_moves-requires-clause-kept : goal.block_moves-requires-clause-kept
block_moves-requires-clause-kept c = All-half_block _ IsHalfBlock-first

pub block_moves-requires-2-clause-kept : goal.block_moves-requires-2-clause-kept
block_moves-requires-2-clause-kept c = All-half_block _ IsHalfBlock-second

pub block_moves-requires-3-clause-kept : goal.block_moves-requires-3-clause-kept
block_moves-requires-3-clause-kept c = All-half_block _ IsHalfBlock-middle

pub invariant_of-result : goal.invariant_of-result
invariant_of-result c = record {
  shows_corners = subst (λ moves. ShowsSame (projection half_corners_view moves) (moves_coordinate c.in_ok-build.field-0))
      (ap (map made_by) c.new-corners.ensures ∙ c.corners_turned-turns.ensures.turns) c.in_ok-build.ensures;
  shows_first = c.in_ok-block_moves.ensures;
  shows_second = c.in_ok-block_moves-2.ensures;
  shows_middle = c.in_ok-block_moves-3.ensures;
  parities = c.parities.ensures;
  stays = StaysBelow-halves;
}
