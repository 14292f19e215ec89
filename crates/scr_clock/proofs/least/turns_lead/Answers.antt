use Rattle.std.proofs.Common.{◌≡◌, arith}
use Rattle.scr_clock.proofs.SideLaws.{two_by_sides, same_tests}
use Rattle.scr_clock.proofs.least.turns_lead.Goals as goal

pub returns-in_default-clause-value : goal.returns-in_default-clause-value
returns-in_default-clause-value c =
    let r = c.two_turns_lead.ensures in
    let two : c.args.turns ≡ 2 = omega arith in
    rw two (same_tests _ _ _ r.exact (two_by_sides c.args.clock.now r.valid))
