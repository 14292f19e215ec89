use Rattle.std.proofs.Common.{[], string_bytes}
use Rattle.scr_markup.specs.Tokens.{Adds}
use Rattle.scr_html.proofs.words.go_to_row.Given as goal

abbrev pub invariant-loop-row : goal.invariant-loop-row
invariant-loop-row l = Adds (string_bytes l.fn.page) (string_bytes l.page) []
