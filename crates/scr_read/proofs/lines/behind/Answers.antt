use Rattle.std.proofs.Common.{sym, ◌∙◌}
use Rattle.std.proofs.lemmas.Slice.Eq.{bytes_eq-Decides}
use Rattle.scr_read.proofs.LineLemmas.{no_front_before}
use Rattle.scr_read.proofs.lines.behind.Goals as goal

pub returns-else-eq : goal.returns-else-eq
returns-else-eq c = λ begins.
    no_front_before c.args.front.now c.args.line.now c.in_ok-begin.begin.now c.in_ok-begin.behind.now begins.0 c.in_ok-begin.ensures.cases begins.1
    (λ same. let yes = (bytes_eq-Decides c.in_ok-begin.begin.now c.as_bytes.result.now).1 (same ∙ sym c.as_bytes.ensures.value) in cc)
