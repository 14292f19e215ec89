use Rattle.std.proofs.Common.{[], string_bytes}
use Rattle.scr_markup.specs.Tokens.{Adds}
use Rattle.scr_html.proofs.head.write_rules.Given as goal

abbrev pub invariant-loop-rule : goal.invariant-loop-rule
invariant-loop-rule l = Adds (string_bytes l.fn.page) (string_bytes l.page) []
