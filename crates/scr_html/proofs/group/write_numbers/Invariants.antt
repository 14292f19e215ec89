use Rattle.std.proofs.Common.{[], string_bytes}
use Rattle.scr_markup.specs.Tokens.{Adds}
use Rattle.scr_html.proofs.group.write_numbers.Given as goal

abbrev pub invariant-loop-number : goal.invariant-loop-number
invariant-loop-number l = Adds (string_bytes l.fn.page) (string_bytes l.page) []
