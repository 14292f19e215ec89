use Rattle.scr_text.proofs.NumberLaws.{number_of_text-decimal, number_of_text-is}
use Rattle.scr_laws.proofs.text.each_number_has_one_text.Goals as goal

pub returns-clause-read_back : goal.returns-clause-read_back
returns-clause-read_back c = number_of_text-decimal

pub returns-clause-one_text : goal.returns-clause-one_text
returns-clause-one_text c = number_of_text-is
