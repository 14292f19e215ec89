use Rattle.std.proofs.Common.{arith, take-add}
use Rattle.std.proofs.lemmas.List.{take_rest}
use Rattle.std.proofs.lemmas.Result.{err_from_is_err_and}
use Rattle.scr_outside.proofs.BytesLemmas.{IsFirstPart-take}
use Rattle.scr_outside.proofs.ChangeLemmas.{Gains-append, Falters-failed}
use Rattle.scr_outside.proofs.sink.write_all.Goals as goal

pub returns-in_err-written : goal.returns-in_err-written
returns-in_err-written g c =
    let p = err_from_is_err_and c.from_residual.result c.from_residual.ensures.1 in
    rw p.1 (Falters-failed c.loop-written.invariant.gains (IsFirstPart-take c.loop-written.written c.args.piece.now) c.in_err-written.ensures.err)

pub loop-written-preserved : goal.loop-written-preserved
loop-written-preserved g c = record {
  within = omega (arith, c.in_ok-written.ensures.within);
  gains = rw take-add (Gains-append c.loop-written.invariant.gains (rw take_rest at c.in_ok-written.ensures.ok));
}
