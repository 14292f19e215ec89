use Rattle.std.proofs.Common.{map, drop}
use Rattle.scr_outside.specs.Change.{change_of}
use Rattle.scr_outside.proofs.ChangeLemmas.{IsWrittenUpTo}
use Rattle.scr_text.specs.Lines.{text_of_lines}
use Rattle.scr_round.specs.Round.{line_text, round_lines, round_text}
use Rattle.scr_round.specs.Made.{turns_of_each}
use Rattle.scr_round.proofs.writing.write_slots.Given as goal

abbrev pub invariant-loop-line : goal.invariant-loop-line
invariant-loop-line g l =
    IsWrittenUpTo (change_of g.O.Sink.held g.O.Sink.faults l.fn.out l.out)
    (round_text l.index l.round (turns_of_each l.scrambles))
    (text_of_lines (map (line_text (turns_of_each l.scrambles)) (drop l.line (round_lines l.index l.round))))
