use Rattle.std.proofs.Common.{sym, subst, ◌∙◌}
use Rattle.std.specs.List.{All}
use Rattle.scr_table.specs.Causes.{IsCauseOf}
use Rattle.scr_table.specs.Lines.{HasNoGap}
use Rattle.scr_table.specs.SearchTables.{IsCauseAmong}
use Rattle.scr_table.proofs.LineLaws.{IfErr-handed}
use Rattle.scr_slots.specs.Tables.{tables_asked}
use Rattle.scr_slots.proofs.BuildCauses.{event_list, whole-asked, cause-asked, whole-unasked}
use Rattle.scr_slots.proofs.tables.built.Goals as goal

pub returns-in_err-tables-clause-cause : goal.returns-in_err-tables-clause-cause
returns-in_err-tables-clause-cause g c =
    let events = event_list c.args.rounds.now in
    let family = c.args.family in
    let why = c.in_err-tables.field-0.0 in
    IfErr-handed (IsCauseAmong (tables_asked events family)) why c.from_residual.result c.from_residual.ensures.1
    (cause-asked events family why (sym c.asks_for.ensures ∙ c.if-asks_for.true)
    (subst (λ lines. IsCauseOf lines why) c.requires.lines c.in_err-tables.ensures.cause))

pub returns-in_ok-tables-clause-whole : goal.returns-in_ok-tables-clause-whole
returns-in_ok-tables-clause-whole g c =
    whole-asked (event_list c.args.rounds.now) c.args.family (sym c.asks_for.ensures ∙ c.if-asks_for.true)
    (subst (All HasNoGap) c.requires.lines c.in_ok-tables.ensures.whole)

pub returns-else-asks_for-clause-whole : goal.returns-else-asks_for-clause-whole
returns-else-asks_for-clause-whole g c =
    whole-unasked (event_list c.args.rounds.now) c.args.family (sym c.asks_for.ensures ∙ c.if-asks_for.false)
