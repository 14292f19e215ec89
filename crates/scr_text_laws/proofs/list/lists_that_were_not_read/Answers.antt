use Rattle.scr_list.specs.Versions.{version_1, version_2}
use Rattle.scr_list.proofs.ReadLemmas.{too_many-read, in_part-read}
use Rattle.scr_text_laws.proofs.list.lists_that_were_not_read.Goals as goal

pub returns-clause-long_first : goal.returns-clause-long_first
returns-clause-long_first c change limit before after refused input left is = too_many-read change limit before after version_1 refused input left is

pub returns-clause-long_second : goal.returns-clause-long_second
returns-clause-long_second c change limit before after refused input left is = too_many-read change limit before after version_2 refused input left is

pub returns-clause-part_first : goal.returns-clause-part_first
returns-clause-part_first c change before after part input left is = in_part-read change before after version_1 part input left is

pub returns-clause-part_second : goal.returns-clause-part_second
returns-clause-part_second c change before after part input left is = in_part-read change before after version_2 part input left is
