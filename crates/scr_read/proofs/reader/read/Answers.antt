use Rattle.scr_read.proofs.WalkLemmas.{after_none, after_fault}
use Rattle.scr_read.proofs.reader.read.Goals as goal

pub returns-in-Ok-None-clause-sheet : goal.returns-in-Ok-None-clause-sheet
returns-in-Ok-None-clause-sheet c =
    after_none c.args.text.now c.loop-piece.reader c.next.new.self c.in-Ok-None.field-0 c.loop-piece.invariant c.in-Ok-None.ensures.reads
    c.in-Ok-None.field-0-is

pub returns-in-Err-clause-fault : goal.returns-in-Err-clause-fault
returns-in-Err-clause-fault c =
    after_fault c.args.text.now c.loop-piece.reader c.next.new.self c.in-Err.fault c.loop-piece.invariant c.in-Err.ensures.reads
