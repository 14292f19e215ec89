use Rattle.std.proofs.Common.{lit≤}
use Rattle.scr_table.proofs.StageLaws.{IsStageWord-first}
use Rattle.scr_orbit.specs.PowerPuzzles.{after_letter}
use Rattle.scr_cube.specs.Cube333.{cube_powers}
use Rattle.scr_stages.specs.Stages.{tetrads_stage}
use Rattle.scr_stages.specs.Numbers.{tetrads_number, IsDominoCube}
use Rattle.scr_stages.specs.Tables.{tetrads_line}
use Rattle.scr_stages.proofs.StageWords.{Follows-half_turned}
use Rattle.scr_stages.proofs.words.tetrads_word.Goals as goal

pub returns : goal.returns
returns c =
    let halves = Follows-half_turned _ c.args.tables.now.built.1.1.1.0 in
    IsStageWord-first (after_letter cube_powers) tetrads_stage IsDominoCube tetrads_line tetrads_number halves (lit≤ tt) _
    c.descend.ensures.table c.args.cube.now c.descend.result.items c.requires
    (rw (
      c.rank-places.ensures.number,
      c.places_of.ensures,
      c.edges.ensures.same,
      c.corner_index.ensures.value,
      c.corners.ensures.same,
    ) at c.descend.ensures.first)
