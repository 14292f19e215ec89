use Rattle.scr_wcif.proofs.KeptLemmas.{without-filled, unique-filled}
use Rattle.scr_wcif.proofs.laws.all_else_stays.Goals as goal

pub returns-clause-rest : goal.returns-clause-rest
returns-clause-rest c = without-filled

pub returns-clause-unique : goal.returns-clause-unique
returns-clause-unique c = unique-filled
