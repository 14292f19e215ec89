use Rattle.scr_html.proofs.TextLemmas.{label_one_line}
use Rattle.scr_html.proofs.group.label_of.Goals as goal

pub returns-clause-line : goal.returns-clause-line
returns-clause-line c = label_one_line c.event.result c.args.place c.label.result.now c.label.ensures.value
