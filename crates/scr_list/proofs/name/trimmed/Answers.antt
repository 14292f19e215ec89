use Rattle.std.proofs.Common.{arith, length-drop}
use Rattle.std.proofs.lemmas.List.{take_all}
use Rattle.scr_list.specs.Names.{trimmed}
use Rattle.scr_list.proofs.NameLemmas.{without_blanks_before}
use Rattle.scr_list.proofs.name.trimmed.Goals as goal

pub returns : goal.returns
unfolding trimmed
returns c = grind (arith, take_all, length-drop, without_blanks_before)
