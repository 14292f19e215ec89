use Rattle.std.proofs.Common.{subst, ap, ◌∙◌, IfOk, IfErr}
use Rattle.std.specs.List.{All}
use Rattle.scr_table.specs.Causes.{IsCauseOf}
use Rattle.scr_table.specs.Lines.{HasNoGap}
use Rattle.scr_small.specs.Tables.{small_lines}
use Rattle.scr_slots.proofs.BuildCauses.{small-lines}
use Rattle.scr_slots.proofs.families.SmallTablesFamilyTables.build.Goals as goal

pub returns-clause-whole : goal.returns-clause-whole
returns-clause-whole g c =
    subst (λ lines. IfOk c.build.result (λ _. All HasNoGap lines)) (ap small_lines c.own_event.ensures ∙ small-lines c.args.family c.requires.family) c.build.ensures.whole

pub returns-clause-cause : goal.returns-clause-cause
returns-clause-cause g c =
    subst (λ lines. IfErr c.build.result (IsCauseOf lines)) (ap small_lines c.own_event.ensures ∙ small-lines c.args.family c.requires.family) c.build.ensures.cause
