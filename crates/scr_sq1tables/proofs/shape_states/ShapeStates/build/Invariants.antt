use Rattle.std.proofs.Common.{◌≡◌}
use Rattle.scr_positions.specs.Moves.{each_below}
use Rattle.scr_sq1tables.specs.Tables.{shapes_state}
use Rattle.scr_sq1tables.proofs.shape_states.ShapeStates.build.Given as goal

abbrev pub invariant-loop-index : goal.invariant-loop-index
invariant-loop-index l = l.states.items ≡ each_below shapes_state l.index
