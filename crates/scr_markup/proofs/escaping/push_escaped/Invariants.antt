use Rattle.std.proofs.Common.{◌≡◌, ◌++◌, string_bytes, length}
use denote.Text.{Utf8}
use denote.Shadow.{shadow}
use Rattle.scr_markup.specs.Tokens.{escaped}
use Rattle.scr_markup.proofs.escaping.push_escaped.Given as goal

-- says that each `&str` the loop changes is text: keep it, and add clauses with ×
abbrev pub invariant-loop-page : goal.invariant-loop-page
invariant-loop-page l =
    shadow (Utf8 l.rest) × (string_bytes l.page ++ escaped l.rest ≡ string_bytes l.fn.page ++ escaped l.fn.text)

abbrev pub decreases-loop-page : goal.decreases-loop-page
decreases-loop-page l = length l.rest
