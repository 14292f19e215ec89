use Rattle.std.proofs.Common.{[], ◌∷◌}
use Rattle.std.proofs.lemmas.List.Elements.{All-cons, All-nil}
use Rattle.scr_table.specs.Lines.{HasNoGap}
use Rattle.scr_table.proofs.LineLaws.{IfErr-cause, no_gaps-line}
use Rattle.scr_sq1tables.specs.Tables.{shapes_line, pairings_line, square_line}
use Rattle.scr_sq1tables.proofs.tables.Sq1Tables.build.Goals as goal

pub returns-in_err-build-clause-cause : goal.returns-in_err-build-clause-cause
returns-in_err-build-clause-cause g c =
    IfErr-cause [] shapes_line (pairings_line ∷ square_line ∷ []) (All-nil HasNoGap)
    c.in_err-build.field-0.0 c.from_residual.result c.from_residual.ensures.1 c.in_err-build.ensures.cause

pub returns-in_err-build-2-clause-cause : goal.returns-in_err-build-2-clause-cause
returns-in_err-build-2-clause-cause g c =
    IfErr-cause (shapes_line ∷ []) pairings_line (square_line ∷ []) (no_gaps-line shapes_line c.in_ok-build.ensures.no_gap)
    c.in_err-build-2.field-0.0 c.from_residual-in_err-build-2.result c.from_residual-in_err-build-2.ensures.1
    c.in_err-build-2.ensures.cause

pub returns-in_err-build-3-clause-cause : goal.returns-in_err-build-3-clause-cause
returns-in_err-build-3-clause-cause g c =
    IfErr-cause (shapes_line ∷ pairings_line ∷ []) square_line []
    (All-cons HasNoGap shapes_line (pairings_line ∷ []) c.in_ok-build.ensures.no_gap
    (no_gaps-line pairings_line c.in_ok-build-2.ensures.no_gap))
    c.in_err-build-3.field-0.0 c.from_residual-in_err-build-3.result c.from_residual-in_err-build-3.ensures.1
    c.in_err-build-3.ensures.cause

pub returns-clause-whole : goal.returns-clause-whole
returns-clause-whole g c =
    All-cons HasNoGap shapes_line (pairings_line ∷ square_line ∷ []) c.in_ok-build.ensures.no_gap
    (All-cons HasNoGap pairings_line (square_line ∷ []) c.in_ok-build-2.ensures.no_gap
    (no_gaps-line square_line c.in_ok-build-3.ensures.no_gap))
