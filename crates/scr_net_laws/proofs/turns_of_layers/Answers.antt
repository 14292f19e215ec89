use Rattle.scr_net_laws.proofs.LettersKept.{letters-kept}
use Rattle.scr_net.proofs.TurnLaws.{turned_net-exchange, turned_net-fewer, turned_net-order}
use Rattle.scr_net_laws.proofs.turns_of_layers.Goals as goal

pub returns : goal.returns
returns c = record {
  kept = λ side face depth amount net some lt shape x. letters-kept side some face depth amount net x lt shape;
  order = λ side face depth net some lt shape. turned_net-order side some face depth net lt shape;
  fewer = λ side face depth amount some lt deep more few. turned_net-fewer side some face depth amount lt deep more few;
  exchange = λ side face other depth deep amount more net some lt axis shape.
      turned_net-exchange side some face other depth deep amount more net lt axis shape;
}
