use Rattle.scr_html.proofs.TextLemmas.{title_one_line}
use Rattle.scr_html.proofs.heads.write_title.Goals as goal

pub marked-requires-clause-text : goal.marked-requires-clause-text
marked-requires-clause-text c = rw (c.as_str.ensures.value, c.title-text.ensures) (title_one_line c.args.group.now c.valid.ensures)
