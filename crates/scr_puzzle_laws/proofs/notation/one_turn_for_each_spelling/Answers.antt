use Rattle.scr_notation.proofs.SpellingLaws.{one_spelling}
use Rattle.scr_puzzle_laws.proofs.notation.one_turn_for_each_spelling.Goals as goal

pub returns : goal.returns
returns c = one_spelling
