use Rattle.std.proofs.Common.{◌≡◌, ◌++◌, map, drop, string_bytes}
use Rattle.scr_text.specs.Lines.{text_of_lines}
use Rattle.scr_list.specs.Printed.{round_line, without_minima, text_of_rounds}
use Rattle.scr_list.specs.Versions.{version_2}
use Rattle.scr_wcif.proofs.list.list_text.Given as goal

abbrev pub invariant-loop-round : goal.invariant-loop-round
invariant-loop-round l =
    string_bytes l.text ++ text_of_lines (map (round_line without_minima) (drop l.round-index l.rounds))
    ≡ text_of_rounds version_2 without_minima l.rounds
