use Rattle.std.proofs.Common.{subst, ap, ◌∙◌, IfOk, IfErr}
use Rattle.std.specs.List.{All}
use Rattle.std.specs.Result.{result_from_control_flow}
use Rattle.std.proofs.lemmas.List.Elements.{All-append}
use Rattle.scr_table.specs.Causes.{IsCauseOf}
use Rattle.scr_table.specs.Lines.{HasNoGap}
use Rattle.scr_table.proofs.LineLaws.{IfErr-handed, IsCauseOf-before, IsCauseOf-behind}
use Rattle.scr_stages.specs.Tables.{stage_lines}
use Rattle.scr_twophase.specs.Tables.{prune_lines}
use Rattle.scr_notation.specs.declared.event.Family.TheVariants as family
use Rattle.scr_slots.specs.TableLines.{family_lines}
use Rattle.scr_slots.proofs.cube_tables.CubeTables.build.Goals as goal

pub returns-in_err-stages-clause-cause : goal.returns-in_err-stages-clause-cause
unfolding family_lines
returns-in_err-stages-clause-cause g c =
    let why = c.in_err-stages.field-0.0 in
    IfErr-handed (IsCauseOf (family_lines family.Cube333)) why c.from_residual.result c.from_residual.ensures.1
    (IsCauseOf-before stage_lines prune_lines why (subst (λ r. IfErr r (IsCauseOf stage_lines)) (c.branch-stages.ensures ∙ ap result_from_control_flow c.in_err-stages.is) c.both-stages.ensures.first.1))

pub returns-in_err-prune-clause-cause : goal.returns-in_err-prune-clause-cause
unfolding family_lines
returns-in_err-prune-clause-cause g c =
    let why = c.in_err-prune.field-0.0 in
    IfErr-handed (IsCauseOf (family_lines family.Cube333)) why c.from_residual-in_err-prune.result c.from_residual-in_err-prune.ensures.1
    (IsCauseOf-behind stage_lines prune_lines why (subst (λ r. IfOk r (λ _. All HasNoGap stage_lines)) (c.branch-stages.ensures ∙ ap result_from_control_flow c.in_ok-stages.is) c.both-stages.ensures.first.0) (subst (λ r. IfErr r (IsCauseOf prune_lines)) (c.branch-prune.ensures ∙ ap result_from_control_flow c.in_err-prune.is) c.both-stages.ensures.second.1))

pub returns-clause-whole : goal.returns-clause-whole
unfolding family_lines
returns-clause-whole g c = All-append HasNoGap stage_lines prune_lines (subst (λ r. IfOk r (λ _. All HasNoGap stage_lines)) (c.branch-stages.ensures ∙ ap result_from_control_flow c.in_ok-stages.is) c.both-stages.ensures.first.0) (subst (λ r. IfOk r (λ _. All HasNoGap prune_lines)) (c.branch-prune.ensures ∙ ap result_from_control_flow c.in_ok-prune.is) c.both-stages.ensures.second.0)
