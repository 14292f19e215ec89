use Rattle.std.proofs.Common.{◌≡◌, rules}
use Rattle.scr_table.proofs.TriedWords.{same_truth}
use Rattle.scr_sq1.specs.Units.{solved_sq1}
use Rattle.scr_sq1solve.specs.Minima.{is_solved_sq1}
use Rattle.scr_sq1solve.proofs.MinimaLaws.{is_solved-iff}
use Rattle.scr_sq1solve.proofs.moves.Sq1MovesMoves.is_solved.Goals as goal

pub returns-then-not-equator : goal.returns-then-not-equator
returns-then-not-equator c =
    same_truth (c.args.state.now ≡ solved_sq1) _ (is_solved_sq1 c.args.state.now) (search rules) (is_solved-iff c.args.state.now)

pub returns-else-not-equator : goal.returns-else-not-equator
returns-else-not-equator c =
    same_truth (c.args.state.now ≡ solved_sq1) _ (is_solved_sq1 c.args.state.now) (search rules) (is_solved-iff c.args.state.now)
