use Rattle.scr_html.proofs.TextLemmas.{round_line_one_line}
use Rattle.scr_html.proofs.heads.write_round.Goals as goal

pub marked-requires-clause-text : goal.marked-requires-clause-text
marked-requires-clause-text c = rw (c.as_str.ensures.value, c.round_line-text.ensures) (round_line_one_line c.args.group.now c.valid.ensures)
