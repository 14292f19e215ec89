use Rattle.scr_draw.proofs.FirstHit.{drawn_is_first, none_is_drawn, read_of_first}
use Rattle.scr_laws.proofs.draw.first_hit.Goals as goal

pub returns-clause-state : goal.returns-clause-state
returns-clause-state g c = λ word place all s. drawn_is_first _ word place all s

pub returns-clause-none : goal.returns-clause-none
returns-clause-none g c = λ word place all. none_is_drawn _ word place all

pub returns-clause-read : goal.returns-clause-read
returns-clause-read g c = λ word place all s tried first. read_of_first _ word s all place tried first
