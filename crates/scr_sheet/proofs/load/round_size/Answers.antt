use Rattle.std.proofs.Common.{◌≤◌, length, map, ap, arith}
use Rattle.std.proofs.lemmas.List.{drop_all}
use Rattle.scr_text.specs.Lines.{text_of_lines}
use Rattle.scr_round.specs.Round.{line_text, round_lines}
use Rattle.scr_round.specs.Made.{turns_of_each}
use Rattle.scr_round.proofs.LineLaws.{text_left-next}
use Rattle.scr_sheet.proofs.SizeLaws.{counted-none, counted-more, counted-all}
use Rattle.scr_sheet.proofs.load.round_size.Goals as goal

pub loop-line-init : goal.loop-line-init
loop-line-init c = record { counted = counted-none _; few = omega arith; low = omega arith }

pub line_at-requires-clause-line : goal.line_at-requires-clause-line
line_at-requires-clause-line c = omega (arith, c.line_count-line-end.ensures.count c.args.index)

pub loop-line-preserved : goal.loop-line-preserved
loop-line-preserved c =
    let next = text_left-next (line_text (turns_of_each c.args.scrambles.now)) _ c.loop-line.line _ c.line_at.ensures.value in
    record {
      counted = counted-more _ _ next c.loop-line.invariant.counted c.line_size-more.ensures.size;
      few = omega (arith, c.loop-line.invariant.few, c.line_size-more.ensures.few);
      low = omega (arith, c.loop-line.invariant.low, c.line_size-more.ensures.low);
    }

pub returns-clause-size : goal.returns-clause-size
returns-clause-size c =
    let lines = round_lines c.args.index c.args.round.now in
    let all = c.line_count-line-end.ensures.count c.args.index in
    let end : length lines ≤ c.loop-line.line = omega (arith, all) in
    let text = line_text (turns_of_each c.args.scrambles.now) in
    counted-all _ (ap (λ rest. text_of_lines (map text rest)) (drop_all c.loop-line.line lines end)) c.loop-line.invariant.counted
