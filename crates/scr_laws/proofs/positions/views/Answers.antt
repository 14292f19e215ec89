use Rattle.std.proofs.Common.{IsTrue}
use Rattle.std.specs.Cmp.Derive.{both_true}
use Rattle.std.proofs.lemmas.Bool.{and_parts}
use Rattle.scr_positions.specs.SearchSpaces.{positions, tested_space}
use Rattle.scr_positions.proofs.ProductLaws.{Follows-product}
use Rattle.scr_positions.proofs.SearchLaws.{FindsTheSame-follows, Follows-through}
use Rattle.scr_laws.proofs.positions.views.Goals as goal

pub returns-clause-searched : goal.returns-clause-searched
returns-clause-searched g c valid goal_is after other view f =
    FindsTheSame-follows (tested_space valid after goal_is) (positions other) view f

pub returns-clause-through : goal.returns-clause-through
returns-clause-through g c valid goal_is after valid_part goal_part after_part other part view f h =
    Follows-through (tested_space valid after goal_is) (tested_space valid_part after_part goal_part) (positions other) part view f h

pub returns-clause-products : goal.returns-clause-products
returns-clause-products g c valid low_goal high_goal after low high v u turns f h =
    let both =
    Follows-product (λ s. IsTrue (valid s)) (λ s. IsTrue (low_goal s)) (λ s. IsTrue (high_goal s)) after low high v u turns f h in
    record {
      kept = both.kept;
      valid = both.valid;
      turned = both.turned;
      goals = λ s is.
          let goals = both.goals s is in (
            λ e. goals.0 (let parts = and_parts (low_goal s) (high_goal s) e in (parts.0, parts.1)),
            λ e. let parts = goals.1 e in both_true parts.0 parts.1,
          );
    }
