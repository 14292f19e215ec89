use Rattle.std.proofs.Common.{◌≡◌, List}
use Rattle.scr_outside.specs.Change.{change_of}
use Rattle.scr_read.specs.Sheets.{SheetRound}
use Rattle.scr_pages.specs.Marked.{marks_of}
use Rattle.scr_pages.specs.Writing.{look_of}
use Rattle.scr_pages.proofs.WritingLemmas.{IsWritten}
use Rattle.scr_pages.proofs.writing.write_groups.Given as goal

abbrev pub invariant-groups : goal.invariant-groups
invariant-groups g l = (rounds : List SheetRound) → l.marks ≡ marks_of rounds
    → IsWritten (look_of l.look) rounds l.fn.groups l.groups l.place (change_of g.O.Sink.held g.O.Sink.faults l.fn.out l.out)
