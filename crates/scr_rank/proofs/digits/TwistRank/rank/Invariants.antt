use Rattle.std.proofs.Common.{◌≡◌}
use Rattle.scr_rank.proofs.DigitSteps.{rest_number}
use Rattle.scr_rank.proofs.digits.TwistRank.rank.Given as goal

abbrev pub invariant-loop-place : goal.invariant-loop-place
invariant-loop-place g l = l.number ≡ rest_number g.row.BASE l.place l.value
