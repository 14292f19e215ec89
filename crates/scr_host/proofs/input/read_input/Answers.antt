use Rattle.std.proofs.Common.{◌<◌, ◌++◌, take, ◌∙◌, arith}
use Rattle.std.proofs.lemmas.Result.{err_from_is_err_and}
use Rattle.scr_outside.proofs.ChangeLemmas.{Gives-append, ends_told-some}
use Rattle.scr_host.proofs.input.read_input.Goals as goal

pub returns-in_err-extend_from_slice : goal.returns-in_err-extend_from_slice
returns-in_err-extend_from_slice g c =
    let p = err_from_is_err_and c.from_residual.result c.from_residual.ensures.1 in
    let some : 0 < c.in-Ok.count = omega arith in
    rw (p.1, p.2)
    (record {
      bytes = c.pieces.bytes.items ++ take c.in-Ok.count c.read.new.buffer;
      gives = Gives-append c.pieces.invariant.taken c.in-Ok.ensures.ok;
      no_end = c.in-Ok.ensures.ends ∙ ends_told-some c.in-Ok.count (g.S.Source.ends c.pieces.source) some ∙ c.pieces.invariant.no_end;
      are = tt;
    })
