use Rattle.std.proofs.Common.{subst, ap, ◌∙◌, IfOk, IfErr}
use Rattle.std.specs.Result.{result_from_control_flow}
use Rattle.std.specs.List.{All}
use Rattle.std.proofs.lemmas.List.Elements.{All-append}
use Rattle.scr_table.specs.Causes.{IsCauseOf}
use Rattle.scr_table.specs.Lines.{HasNoGap}
use Rattle.scr_table.proofs.LineLaws.{IfErr-handed, IsCauseOf-before, IsCauseOf-behind}
use Rattle.scr_twophase.specs.Tables.{first_lines, second_lines, prune_lines}
use Rattle.scr_twophase.proofs.tables.PruneTables.build.Goals as goal

pub returns-in_err-first-clause-cause : goal.returns-in_err-first-clause-cause
returns-in_err-first-clause-cause g c =
    let fault = c.in_err-first.field-0.0 in
    IfErr-handed (IsCauseOf prune_lines) fault c.from_residual.result c.from_residual.ensures.1
    (IsCauseOf-before first_lines second_lines fault (subst (λ r. IfErr r (IsCauseOf first_lines)) (c.branch-first.ensures ∙ ap result_from_control_flow c.in_err-first.is) c.both-first.ensures.first.1))

pub returns-in_err-second-clause-cause : goal.returns-in_err-second-clause-cause
returns-in_err-second-clause-cause g c =
    let fault = c.in_err-second.field-0.0 in
    IfErr-handed (IsCauseOf prune_lines) fault c.from_residual-in_err-second.result c.from_residual-in_err-second.ensures.1
    (IsCauseOf-behind first_lines second_lines fault
    (subst (λ r. IfOk r (λ _. All HasNoGap first_lines)) (c.branch-first.ensures ∙ ap result_from_control_flow c.in_ok-first.is) c.both-first.ensures.first.0)
    (subst (λ r. IfErr r (IsCauseOf second_lines)) (c.branch-second.ensures ∙ ap result_from_control_flow c.in_err-second.is) c.both-first.ensures.second.1))

pub returns-clause-whole : goal.returns-clause-whole
returns-clause-whole g c =
    All-append HasNoGap first_lines second_lines
    (subst (λ r. IfOk r (λ _. All HasNoGap first_lines)) (c.branch-first.ensures ∙ ap result_from_control_flow c.in_ok-first.is) c.both-first.ensures.first.0)
    (subst (λ r. IfOk r (λ _. All HasNoGap second_lines)) (c.branch-second.ensures ∙ ap result_from_control_flow c.in_ok-second.is) c.both-first.ensures.second.0)
