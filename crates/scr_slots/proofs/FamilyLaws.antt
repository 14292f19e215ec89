-- The tables of each family, as their states tell them, are those of the lines by which they are built.
use Rattle.scr_notation.specs.declared.event.Family.{Family}
use Rattle.scr_notation.specs.declared.event.Family.TheVariants.{Cube222, Cube333, Pyraminx, Skewb, Square1}
use Rattle.scr_table.specs.TableStates.{AreLinesOf}
use Rattle.scr_table.proofs.TableStatesLaws.{AreLinesOf-append}
use Rattle.scr_small.proofs.StateTables.{IsLineOf-corners, IsLineOf-pyramid, IsLineOf-skewb}
use Rattle.scr_stages.specs.Tables.{stage_lines}
use Rattle.scr_stages.specs.SearchTables.{stage_tables}
use Rattle.scr_stages.proofs.StateTables.{AreLinesOf-stages}
use Rattle.scr_twophase.specs.Tables.{prune_lines}
use Rattle.scr_twophase.specs.SearchTables.{prune_tables}
use Rattle.scr_twophase.proofs.StateTables.{AreLinesOf-prune}
use Rattle.scr_sq1tables.proofs.StateTables.{AreLinesOf-sq1}
use Rattle.scr_slots.specs.TableLines.{family_lines}
use Rattle.scr_slots.specs.Tables.{family_tables}

pub AreLinesOf-family : (family : Family) → AreLinesOf (family_tables family) (family_lines family)
unfolding family_tables family_lines
AreLinesOf-family Cube222 = (IsLineOf-corners, tt)
AreLinesOf-family Cube333 = AreLinesOf-append stage_tables prune_tables stage_lines prune_lines AreLinesOf-stages AreLinesOf-prune
AreLinesOf-family Pyraminx = (IsLineOf-pyramid, tt)
AreLinesOf-family Skewb = (IsLineOf-skewb, tt)
AreLinesOf-family Square1 = AreLinesOf-sq1
