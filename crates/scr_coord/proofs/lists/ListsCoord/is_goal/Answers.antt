use Rattle.std.proofs.Common.{sym, ap}
use Rattle.std.specs.Prelude.{◌==◌}
use Rattle.scr_coord.proofs.GoalNumbers.{permutation_number-in_order}
use Rattle.scr_coord.proofs.lists.ListsCoord.is_goal.Goals as goal

pub returns : goal.returns
returns g c = ap (λ n. c.args.position == n) (sym (permutation_number-in_order g.row.N))
