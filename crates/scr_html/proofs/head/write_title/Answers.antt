use Rattle.scr_html.proofs.TextLemmas.{above_controls}
use Rattle.scr_html.proofs.head.write_title.Goals as goal

pub marked-requires-else-is_empty-clause-text : goal.marked-requires-else-is_empty-clause-text
marked-requires-else-is_empty-clause-text c = above_controls c.args.competition.now c.requires
