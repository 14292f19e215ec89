use Rattle.scr_pages.proofs.SlotLemmas.{of_square_1}
use Rattle.scr_pages.proofs.survey.near_line.Goals as goal

pub first_near-requires-clause-puzzle : goal.first_near-requires-clause-puzzle
first_near-requires-clause-puzzle c = of_square_1 c.args.group.now c.scrambles.result.now c.scrambles.ensures.value c.requires.puzzle
