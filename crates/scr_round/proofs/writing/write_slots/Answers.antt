use Rattle.std.proofs.Common.{◌≤◌, length, map, ap, arith}
use Rattle.std.proofs.lemmas.List.{drop_all}
use Rattle.std.proofs.lemmas.Result.{err_from_is_err_and}
use Rattle.scr_outside.proofs.ChangeLemmas.{written-none, written-more, written-part, written-at, written-all}
use Rattle.scr_text.specs.Lines.{text_of_lines}
use Rattle.scr_round.specs.Round.{line_text, round_lines}
use Rattle.scr_round.specs.Made.{turns_of_each}
use Rattle.scr_round.proofs.LineLaws.{text_left-next}
use Rattle.scr_round.proofs.writing.write_slots.Goals as goal

pub loop-line-init : goal.loop-line-init
loop-line-init g c = written-none

pub line_at-requires-clause-line : goal.line_at-requires-clause-line
line_at-requires-clause-line g c = omega (arith, c.line_count-line-end.ensures.count c.args.index)

pub returns-in_err-write_sheet_line : goal.returns-in_err-write_sheet_line
returns-in_err-write_sheet_line g c =
    let p = err_from_is_err_and c.from_residual.result c.from_residual.ensures.1 in
    let next = text_left-next (line_text (turns_of_each c.args.scrambles.now)) _ c.loop-line.line _ c.line_at.ensures.value in
    rw p.1 (written-part _ (written-at next c.loop-line.invariant) c.in_err-write_sheet_line.ensures)

pub loop-line-preserved : goal.loop-line-preserved
loop-line-preserved g c =
    let next = text_left-next (line_text (turns_of_each c.args.scrambles.now)) _ c.loop-line.line _ c.line_at.ensures.value in
    written-more (written-at next c.loop-line.invariant) c.in_ok-write_sheet_line.ensures

pub returns : goal.returns
returns g c =
    let lines = round_lines c.args.index c.args.round.now in
    let all = c.line_count-line-end.ensures.count c.args.index in
    let end : length lines ≤ c.loop-line.line = omega (arith, all) in
    let text = line_text (turns_of_each c.args.scrambles.now) in
    written-all (written-at (ap (λ rest. text_of_lines (map text rest)) (drop_all c.loop-line.line lines end)) c.loop-line.invariant)
