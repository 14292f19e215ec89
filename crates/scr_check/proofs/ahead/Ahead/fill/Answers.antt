use Rattle.std.proofs.Common.{arith}
use Rattle.std.proofs.lemmas.Result.{err_from_is_err_and}
use Rattle.scr_check.proofs.AheadLemmas.{held-kept}
use Rattle.scr_check.proofs.ahead.Ahead.fill.Goals as goal

pub returns-in_err-count-clause-kept : goal.returns-in_err-count-clause-kept
returns-in_err-count-clause-kept g c =
    let p = err_from_is_err_and c.from_residual.result c.from_residual.ensures.1 in
    rw p.1 (held-kept c.self.inside.from c.self.inside.to c.self.inside.buffer c.read.new.buffer c.self.inside.ended c.args.self.now
    c.self.invariant.0 (omega arith) c.self.view_is c.requires.empty)
