use Rattle.std.proofs.Common.{◌-◌, arith}
use Rattle.scr_rank.proofs.PairingSteps.{rank_step}
use Rattle.scr_rank.proofs.pairings.Pairing8.rank.Goals as goal

pub overflow_mul-number-in-loop-pairs : goal.overflow_mul-number-in-loop-pairs
overflow_mul-number-in-loop-pairs c =
    let l = c.loop-pairs in
    let step = rank_step l.pairs (l.pairs - 1) l.number l.rest c.args.value.now (omega arith) c.requires.valid l.invariant in
    omega (arith, step.small)
