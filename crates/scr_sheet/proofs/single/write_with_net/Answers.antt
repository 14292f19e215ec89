use Rattle.std.proofs.Common.{◌∙◌}
use Rattle.std.proofs.lemmas.Result.{err_from_is_err_and}
use Rattle.scr_outside.proofs.ChangeLemmas.{Falters-longer}
use Rattle.scr_sheet.proofs.SingleLaws.{Writes-behind}
use Rattle.scr_sheet.proofs.single.write_with_net.Goals as goal

pub returns-in_err-write_line : goal.returns-in_err-write_line
returns-in_err-write_line g c =
    let p = err_from_is_err_and c.from_residual.result c.from_residual.ensures.1 in
    let line = c.as_str.ensures.value ∙ c.print.ensures in
    rw p.1 (Falters-longer _ (rw line at c.in_err-write_line.ensures))

pub returns : goal.returns
returns g c =
    let line = c.as_str.ensures.value ∙ c.print.ensures in
    Writes-behind _ _ _ _ _ _ _ _ c.write_net_of.result (rw line at c.in_ok-write_line.ensures) c.write_net_of.ensures
