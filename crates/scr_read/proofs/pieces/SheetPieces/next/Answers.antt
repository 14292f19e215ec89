use Rattle.scr_read.proofs.LeftLemmas.{no_fault}
use Rattle.scr_read.proofs.pieces.SheetPieces.next.Goals as goal

pub unreachable-requires : goal.unreachable-requires
unreachable-requires c = no_fault c.self.inside.reader c.next.new.self c.in-Err.field-0 c.self.inside.left c.in-Err.ensures.reads
