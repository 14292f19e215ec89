use Rattle.scr_table.proofs.TableStatesLaws.{EachSeesAlike-lines}
use Rattle.scr_slots.specs.TableLines.{family_lines}
use Rattle.scr_slots.specs.Tables.{family_tables}
use Rattle.scr_slots.proofs.FamilyLaws.{AreLinesOf-family}
use Rattle.scr_run_laws.proofs.slots.tables_told_by_states.Goals as goal

pub returns-clause-lines : goal.returns-clause-lines
returns-clause-lines c = AreLinesOf-family

pub returns-clause-alike : goal.returns-clause-alike
returns-clause-alike c = λ family. EachSeesAlike-lines (family_tables family) (family_lines family) (AreLinesOf-family family)
