use Rattle.scr_slots.proofs.laws.FairnessQuestion.of_moves.Goals as goal

pub returns : goal.returns
returns g c = λ least range. g.met.M.MoveEvent.are_fair c.args._moves.now
