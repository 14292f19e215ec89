use Rattle.scr_slots.proofs.Listings.{by-numbering}
use Rattle.scr_slots.proofs.laws.FairnessQuestion.of_states.Goals as goal

pub returns : goal.returns
returns g c = λ least range. by-numbering c.count.ensures.numbering (c.drawn_fairly.ensures.fair least range)
