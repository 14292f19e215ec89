use Rattle.std.proofs.Common.{refl}
use Rattle.scr_words.proofs.SameWords.{same_words}
use Rattle.scr_words.proofs.chacha.ChaChaWords.new.Goals as goal

pub returns-clause-value : goal.returns-clause-value
returns-clause-value c = rw (c.set_stream.ensures, c.from_seed-generator.ensures) refl

pub returns-clause-words : goal.returns-clause-words
returns-clause-words c = rw (c.set_stream.ensures, c.from_seed-generator.ensures) (same_words _ _)
