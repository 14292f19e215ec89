use Rattle.std.proofs.Common.{lit≤}
use Rattle.scr_table.proofs.StageLaws.{IsStageWord-first}
use Rattle.scr_orbit.specs.PowerPuzzles.{after_letter}
use Rattle.scr_cube.specs.Cube333.{cube_powers}
use Rattle.scr_stages.specs.Stages.{slice_stage}
use Rattle.scr_stages.specs.Numbers.{slice_number, IsUnflippedCube}
use Rattle.scr_stages.specs.Tables.{slice_line}
use Rattle.scr_stages.proofs.StageSpaces.{Follows-unflipped}
use Rattle.scr_stages.proofs.words.slice_word.Goals as goal

pub returns : goal.returns
returns c =
    IsStageWord-first (after_letter cube_powers) slice_stage IsUnflippedCube slice_line slice_number Follows-unflipped (lit≤ tt) _
    c.descend.ensures.table c.args.cube.now c.descend.result.items c.requires
    (rw (
      c.rank-twists.ensures.number,
      c.twists.ensures.same,
      c.rank-places.ensures.number,
      c.places_of.ensures,
      c.edges.ensures.same,
    ) at c.descend.ensures.first)
