use Rattle.scr_draw.proofs.Fairness.{fair}
use Rattle.scr_laws.proofs.draw.same_ways.Goals as goal

pub returns : goal.returns
returns g c = fair _ c.count.ensures.numbering _
