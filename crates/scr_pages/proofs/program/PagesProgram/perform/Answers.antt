use Rattle.std.proofs.lemmas.Result.{err_from_is_err_and}
use Rattle.scr_pages.proofs.program.PagesProgram.perform.Goals as goal

pub returns-in_err-print_asked : goal.returns-in_err-print_asked
returns-in_err-print_asked g c =
    let p = err_from_is_err_and c.from_residual.result c.from_residual.ensures.1 in
    rw (p.1, p.2) (c.in_err-print_asked.ensures, tt)
