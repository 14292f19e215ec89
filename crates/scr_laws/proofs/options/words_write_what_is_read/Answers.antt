use Rattle.scr_laws.proofs.SpellingLaws.{reads_back, reads_nothing_else}
use Rattle.scr_laws.proofs.options.words_write_what_is_read.Goals as goal

pub returns-clause-back : goal.returns-clause-back
returns-clause-back c = reads_back

pub returns-clause-nothing_else : goal.returns-clause-nothing_else
returns-clause-nothing_else c = reads_nothing_else
