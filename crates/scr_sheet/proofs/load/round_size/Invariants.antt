use Rattle.std.proofs.Common.{◌*◌, ◌≤◌, map, drop}
use Rattle.scr_text.specs.Lines.{text_of_lines}
use Rattle.scr_round.specs.Round.{line_text, round_lines, round_text}
use Rattle.scr_round.specs.Made.{turns_of_each}
use Rattle.scr_sheet.proofs.SizeLaws.{IsCountedUpTo}
use Rattle.scr_sheet.proofs.load.round_size.Given as goal

abbrev pub invariant-loop-line : goal.invariant-loop-line
invariant-loop-line l = record {
  counted : IsCountedUpTo (round_text l.index l.round (turns_of_each l.scrambles))
      (text_of_lines (map (line_text (turns_of_each l.scrambles)) (drop l.line (round_lines l.index l.round)))) l.size;
  few : l.size.bytes ≤ l.line * 1320;
  low : l.size.sum ≤ l.line * 336600;
}
