use Rattle.std.proofs.Common.{◌≡◌, take}
use Rattle.std.specs.Prelude.{filter}
use Rattle.scr_list.specs.declared.round.Round.{Round}
use Rattle.scr_notation.specs.Event.{is_tested_by_table}
use Rattle.scr_sheet.proofs.check.tested_rounds.Given as goal

abbrev pub invariant-loop-round : goal.invariant-loop-round
invariant-loop-round l = l.tested.items ≡ filter (λ (round : Round). is_tested_by_table round.event) (take l.round-index l.rounds)
