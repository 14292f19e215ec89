use Rattle.scr_table.proofs.ListedWords.{All-below, All-numbers, Contains-words_of, IsListed-listed}
use Rattle.scr_cube.specs.ListedTurns.{turn_numbers}
use Rattle.scr_solver_laws.proofs.twophase.words.Goals as goal

pub returns : goal.returns
returns c = λ n w. (
  λ there. let listed = IsListed-listed turn_numbers n w there in (listed.size, All-below 18 w listed.each),
  λ is. Contains-words_of turn_numbers n w is.0 (All-numbers 18 w is.1),
)
