use Rattle.std.proofs.Common.{lit<, Some, None}
use Rattle.scr_markup.proofs.AddsLemmas.{adds_then}
use Rattle.std.proofs.lemmas.Str.Pattern.{split_once_first}
use Rattle.scr_html.proofs.TextLemmas.{before_line_feed, no_line_feed}
use Rattle.scr_html.proofs.heads.+write_lines.Goals as goal

pub plain-requires-clause-text : goal.plain-requires-clause-text
plain-requires-clause-text t c = no_line_feed c.args.text.now (split_once_first 10 c.args.text.now None c.in-None.ensures.cases (lit< tt))

pub plain-requires-in-Some-clause-text : goal.plain-requires-in-Some-clause-text
plain-requires-in-Some-clause-text t c =
    let parts = split_once_first 10 c.args.text.now (Some (c.in-Some.line, c.in-Some.more)) c.in-Some.ensures.cases (lit< tt) in
    rw parts.1 (before_line_feed c.args.text.now)

pub returns-in_ok-write_lines-in-Some : goal.returns-in_ok-write_lines-in-Some
returns-in_ok-write_lines-in-Some t c = adds_then _ _ _ _ _ c.in_ok-plain-in-Some.ensures c.in_ok-write_lines-in-Some.ensures
