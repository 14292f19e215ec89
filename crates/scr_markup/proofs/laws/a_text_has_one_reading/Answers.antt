use Rattle.scr_markup.proofs.ReadingLemmas.{tokens_once}
use Rattle.scr_markup.proofs.laws.a_text_has_one_reading.Goals as goal

pub returns : goal.returns
returns c = tokens_once
