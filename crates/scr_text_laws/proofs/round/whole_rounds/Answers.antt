use Rattle.std.proofs.Common.{refl}
use Rattle.std.specs.Fmt.{digits}
use Rattle.scr_notation.specs.Spelling.{spelling}
use Rattle.scr_text_laws.proofs.round.whole_rounds.Goals as goal

pub returns : goal.returns
unfolding digits spelling
returns c = record { minimum = refl; random_moves = refl; named = refl }
