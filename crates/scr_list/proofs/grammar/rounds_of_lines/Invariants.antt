use Rattle.std.proofs.Common.{◌≡◌, ◌+◌, ◌≤◌}
use Rattle.std.specs.Prelude.{option_copied}
use Rattle.scr_text.specs.Parts.{more_lines}
use Rattle.scr_list.specs.Rounds.{rounds_of_lines}
use Rattle.scr_list.proofs.RoundLemmas.{read_on, left_of}
use Rattle.scr_list.proofs.grammar.rounds_of_lines.Given as goal

abbrev pub invariant-lines : goal.invariant-lines
invariant-lines l = record {
  answer : rounds_of_lines l.version 0 l.first (more_lines (option_copied l.fn.text))
      ≡ read_on l.version l.rounds.items l.number (more_lines (option_copied l.rest));
  short : l.number + left_of l.rest ≤ 16387;
}

abbrev pub decreases-lines : goal.decreases-lines
decreases-lines l = left_of l.rest
