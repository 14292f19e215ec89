use Rattle.std.proofs.Common.{lit≤}
use Rattle.scr_table.proofs.StageLaws.{IsStageWord-first}
use Rattle.scr_orbit.specs.PowerPuzzles.{after_letter}
use Rattle.scr_cube.specs.Cube333.{IsCube, cube_powers}
use Rattle.scr_stages.specs.Stages.{flips_stage}
use Rattle.scr_stages.specs.Numbers.{flips_number}
use Rattle.scr_stages.specs.Tables.{flips_line}
use Rattle.scr_stages.proofs.StageSpaces.{Follows-flips}
use Rattle.scr_stages.proofs.words.flips_word.Goals as goal

pub returns-clause-word : goal.returns-clause-word
returns-clause-word c =
    IsStageWord-first (after_letter cube_powers) flips_stage IsCube flips_line flips_number Follows-flips (lit≤ tt) _
    c.descend.ensures.table c.args.cube.now c.descend.result.items c.flips.ensures.valid
    (rw (c.rank-number.ensures.number, c.flips.ensures.same) at c.descend.ensures.first)
