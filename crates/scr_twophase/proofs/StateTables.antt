-- The lines of the pruning tables, as cubes tell them.
use Rattle.std.proofs.Common.{refl}
use Rattle.scr_table.specs.TableStates.{AreLinesOf}
use Rattle.scr_table.proofs.TableStatesLaws.{IsLineOf-each}
use Rattle.scr_twophase.specs.Tables.{flipslice_line, twistslice_line, cornerslice_line, edgeslice_line, prune_lines}
use Rattle.scr_twophase.specs.SearchTables.{flipslice_table, twistslice_table, cornerslice_table, edgeslice_table, prune_tables}
use Rattle.scr_twophase.proofs.Spaces.{Follows-flipslice, Follows-twistslice, Follows-cornerslice, Follows-edgeslice}
use Rattle.scr_twophase.proofs.EachIndex.{each-flipslice, each-twistslice, each-cornerslice, each-edgeslice}

pub AreLinesOf-prune : AreLinesOf prune_tables prune_lines
AreLinesOf-prune = (
  IsLineOf-each flipslice_table flipslice_line refl refl refl Follows-flipslice each-flipslice,
  (
    IsLineOf-each twistslice_table twistslice_line refl refl refl Follows-twistslice each-twistslice,
    (
      IsLineOf-each cornerslice_table cornerslice_line refl refl refl Follows-cornerslice each-cornerslice,
      (IsLineOf-each edgeslice_table edgeslice_line refl refl refl Follows-edgeslice each-edgeslice, tt),
    ),
  ),
)
