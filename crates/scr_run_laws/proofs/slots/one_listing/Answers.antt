use Rattle.scr_notation.specs.Event.{puzzle_of}
use Rattle.scr_slots.proofs.EachEvent.{each_lawful}
use Rattle.scr_run_laws.proofs.slots.one_listing.Goals as goal

pub returns : goal.returns
returns c = λ event. (each_lawful (puzzle_of event)).one_listing
