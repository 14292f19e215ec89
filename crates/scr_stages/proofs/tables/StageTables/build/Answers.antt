use Rattle.std.proofs.Common.{[], ◌∷◌}
use Rattle.std.proofs.lemmas.List.Elements.{All-from_recursion, All-nil}
use Rattle.scr_table.specs.Lines.{HasNoGap}
use Rattle.scr_table.proofs.LineLaws.{IfErr-cause, no_gaps-line}
use Rattle.scr_stages.specs.Tables.{flips_line, slice_line, tetrads_line, halves_line, stage_lines}
use Rattle.scr_stages.proofs.tables.StageTables.build.Goals as goal

pub returns-in_err-build-clause-cause : goal.returns-in_err-build-clause-cause
returns-in_err-build-clause-cause g c =
    IfErr-cause [] flips_line (slice_line ∷ tetrads_line ∷ halves_line ∷ []) (All-nil HasNoGap)
    c.in_err-build.field-0.0 c.from_residual.result c.from_residual.ensures.1 c.in_err-build.ensures.cause

pub returns-in_err-build-2-clause-cause : goal.returns-in_err-build-2-clause-cause
returns-in_err-build-2-clause-cause g c =
    IfErr-cause (flips_line ∷ []) slice_line (tetrads_line ∷ halves_line ∷ [])
    (no_gaps-line flips_line c.in_ok-build.ensures.no_gap)
    c.in_err-build-2.field-0.0 c.from_residual-in_err-build-2.result c.from_residual-in_err-build-2.ensures.1
    c.in_err-build-2.ensures.cause

pub returns-in_err-build-3-clause-cause : goal.returns-in_err-build-3-clause-cause
returns-in_err-build-3-clause-cause g c =
    IfErr-cause (flips_line ∷ slice_line ∷ []) tetrads_line (halves_line ∷ [])
    (All-from_recursion HasNoGap (flips_line ∷ slice_line ∷ []) (c.in_ok-build.ensures.no_gap, (c.in_ok-build-2.ensures.no_gap, tt)))
    c.in_err-build-3.field-0.0 c.from_residual-in_err-build-3.result c.from_residual-in_err-build-3.ensures.1
    c.in_err-build-3.ensures.cause

pub returns-in_err-build-4-clause-cause : goal.returns-in_err-build-4-clause-cause
returns-in_err-build-4-clause-cause g c =
    IfErr-cause (flips_line ∷ slice_line ∷ tetrads_line ∷ []) halves_line []
    (All-from_recursion HasNoGap (flips_line ∷ slice_line ∷ tetrads_line ∷ [])
    (c.in_ok-build.ensures.no_gap, (c.in_ok-build-2.ensures.no_gap, (c.in_ok-build-3.ensures.no_gap, tt))))
    c.in_err-build-4.field-0.0 c.from_residual-in_err-build-4.result c.from_residual-in_err-build-4.ensures.1
    c.in_err-build-4.ensures.cause

pub returns-clause-whole : goal.returns-clause-whole
returns-clause-whole g c =
    All-from_recursion HasNoGap stage_lines
    (c.in_ok-build.ensures.no_gap, (c.in_ok-build-2.ensures.no_gap, (c.in_ok-build-3.ensures.no_gap, (c.in_ok-build-4.ensures.no_gap, tt))))
