use Rattle.scr_sq1solve.proofs.TotalLaws.{IsTotal-unique, play-total, IsScrambleSq1-total, IsFirstTotal-scramble}
use Rattle.scr_solver_laws.proofs.sq1solve.totals.Goals as goal

pub returns : goal.returns
returns c = record {
  one = IsTotal-unique;
  solves = play-total;
  of_first = IsScrambleSq1-total;
  scramble = λ s turns valid h. let first = IsFirstTotal-scramble s turns valid h in (first.word, first.total, first.is, first.of_word, first.taken_back);
}
