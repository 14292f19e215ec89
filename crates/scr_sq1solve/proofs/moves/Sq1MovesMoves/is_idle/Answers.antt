use Rattle.std.proofs.Common.{sym, ◌∙◌, eq-eqb}
use Rattle.std.proofs.lemmas.Bool.{not-true, ne_eqb}
use Rattle.scr_sq1solve.proofs.MinimaLaws.{NeverHelps-idle}
use Rattle.scr_sq1solve.proofs.moves.Sq1MovesMoves.is_idle.Goals as goal

pub returns-then-first-eq-TWIST : goal.returns-then-first-eq-TWIST
returns-then-first-eq-TWIST c = λ t. NeverHelps-idle c.args.first c.args.second (eq-eqb c.args.first 65 c.if-first-eq-TWIST.true ∙ sym t)

pub returns-else-first-eq-TWIST : goal.returns-else-first-eq-TWIST
returns-else-first-eq-TWIST c = λ t. NeverHelps-idle c.args.first c.args.second (ne_eqb c.args.first 65 c.if-first-eq-TWIST.false ∙ sym (not-true _ t))
