use Rattle.scr_laws.proofs.Spelled.{words_one_to_one}
use Rattle.scr_laws.proofs.draw.each_number_once.Goals as goal

pub returns : goal.returns
returns c = words_one_to_one
