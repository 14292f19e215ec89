use Rattle.std.proofs.Common.{◌≡◌, false, take}
use Rattle.std.specs.List.{list_any}
use Rattle.scr_combinatorics.specs.Lists.{numbers_from}
use Rattle.scr_sq1tables.specs.Stages.{squaring_stage}
use Rattle.scr_sq1tables.specs.Tables.{leads_home, shapes_numbered}
use Rattle.scr_sq1tables.proofs.shape_moves.ShapeMovesCoord.is_goal.Given as goal

abbrev pub invariant-loop-number : goal.invariant-loop-number
invariant-loop-number l = list_any (leads_home shapes_numbered squaring_stage l.position) (take l.number (numbers_from 0 4)) ≡ false
