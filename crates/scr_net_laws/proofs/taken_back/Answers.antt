use Rattle.scr_net.proofs.TurnLaws.{taken-back}
use Rattle.scr_net_laws.proofs.taken_back.Goals as goal

pub returns : goal.returns
returns c = λ side event w net some shape permitted layers. taken-back side some event w net permitted layers shape
