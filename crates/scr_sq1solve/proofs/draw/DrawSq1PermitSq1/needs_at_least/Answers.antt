use Rattle.scr_combinatorics.specs.Reach.{Needs}
use Rattle.scr_table.proofs.TriedWords.{same_truth}
use Rattle.scr_sq1.specs.Units.{sq1_puzzle}
use Rattle.scr_sq1solve.specs.Minima.{needs_test_sq1}
use Rattle.scr_sq1solve.proofs.MinimaLaws.{NeedsTurns-iff, needs_test-iff}
use Rattle.scr_sq1solve.proofs.draw.DrawSq1PermitSq1.needs_at_least.Goals as goal

pub returns : goal.returns
returns c =
    let s = c.args.state.now in
    let least = c.args.least in
    let both = NeedsTurns-iff s least c.is_valid.ensures in
    same_truth (Needs sq1_puzzle s least) c.no_shorter.result (needs_test_sq1 s least)
    (λ t. both.0 (c.no_shorter.ensures.0 t), λ n. c.no_shorter.ensures.1 (both.1 n)) (needs_test-iff s least c.is_valid.ensures)
