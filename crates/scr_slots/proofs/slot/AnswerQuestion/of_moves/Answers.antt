use Rattle.scr_slots.proofs.slot.AnswerQuestion.of_moves.Goals as goal

pub returns : goal.returns
returns g c = c.scramble.ensures c.args.self.now.least
