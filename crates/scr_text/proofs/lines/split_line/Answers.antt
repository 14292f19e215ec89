use Rattle.std.proofs.Common.{sym, ◌∙◌}
use Rattle.std.proofs.lemmas.List.{take_rest}
use Rattle.scr_text.proofs.LineLaws.{lines_of-first, lines_of-last}
use Rattle.scr_text.proofs.lines.split_line.Goals as goal

pub returns-in-Some-clause-lines : goal.returns-in-Some-clause-lines
returns-in-Some-clause-lines c =
    rw (take_rest, c.without_return.ensures) (lines_of-first c.args.text.now c.in-Some.end (sym c.line_feed.ensures.place ∙ c.in-Some.is))

pub returns-in-None-clause-lines : goal.returns-in-None-clause-lines
returns-in-None-clause-lines c =
    rw c.without_return-in-None.ensures (lines_of-last c.args.text.now (sym c.line_feed.ensures.place ∙ c.in-None.is))
