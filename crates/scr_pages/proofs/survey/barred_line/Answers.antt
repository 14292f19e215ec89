use Rattle.std.proofs.Common.{sym, ap, ◌∙◌}
use Rattle.std.proofs.lemmas.Bool.{false≢true}
use Rattle.scr_notation.specs.Event.{puzzle_of}
use Rattle.scr_pages.specs.Slots.{IsBarred}
use Rattle.scr_pages.proofs.SlotLemmas.{of_square_1, none-other}
use Rattle.scr_pages.proofs.survey.barred_line.Goals as goal

pub first_barred-requires-clause-puzzle : goal.first_barred-requires-clause-puzzle
first_barred-requires-clause-puzzle c =
    of_square_1 c.args.group.now c.scrambles.result.now c.scrambles.ensures.value
    (sym (ap puzzle_of c.event-event.ensures.value) ∙ c.is_square_1.ensures.0 c.if-is_square_1.true)

pub returns-else-is_square_1 : goal.returns-else-is_square_1
returns-else-is_square_1 c =
    none-other IsBarred c.args.group.now (λ slot is. is.puzzle)
    (λ e. false≢true (sym c.if-is_square_1.false ∙ c.is_square_1.ensures.1 (ap puzzle_of c.event-event.ensures.value ∙ e)))
