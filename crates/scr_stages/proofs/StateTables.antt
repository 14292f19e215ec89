-- The lines of the tables of the stages, as cubes tell them.
use Rattle.std.proofs.Common.{refl}
use Rattle.scr_table.specs.TableStates.{AreLinesOf}
use Rattle.scr_table.proofs.TableStatesLaws.{IsLineOf-each}
use Rattle.scr_stages.specs.Tables.{flips_line, slice_line, tetrads_line, halves_line, stage_lines}
use Rattle.scr_stages.specs.SearchTables.{flips_table, slice_table, tetrads_table, halves_table, stage_tables}
use Rattle.scr_stages.proofs.StageSpaces.{Follows-flips, Follows-slice, Follows-tetrads}
use Rattle.scr_stages.proofs.HalfTurned.{Follows-halves}
use Rattle.scr_stages.proofs.EachIndex.{each-flips, each-slice, each-tetrads, each-halves}

pub AreLinesOf-stages : AreLinesOf stage_tables stage_lines
AreLinesOf-stages = (
  IsLineOf-each flips_table flips_line refl refl refl Follows-flips each-flips,
  (
    IsLineOf-each slice_table slice_line refl refl refl Follows-slice each-slice,
    (
      IsLineOf-each tetrads_table tetrads_line refl refl refl Follows-tetrads each-tetrads,
      (IsLineOf-each halves_table halves_line refl refl refl Follows-halves each-halves, tt),
    ),
  ),
)
