use Rattle.std.proofs.Common.{sym, ap}
use Rattle.std.specs.Prelude.{◌==◌}
use Rattle.scr_coord.proofs.GoalNumbers.{twists_number-zeros}
use Rattle.scr_coord.proofs.twists.TwistsCoord.is_goal.Goals as goal

pub returns : goal.returns
returns g c = ap (λ n. c.args.position == n) (sym (twists_number-zeros g.row.N g.row.BASE))
