use Rattle.std.proofs.Common.{length}
use Rattle.scr_read.proofs.WalkLemmas.{HasRead}
use Rattle.scr_read.proofs.reader.read.Given as goal

abbrev pub invariant-loop-piece : goal.invariant-loop-piece
invariant-loop-piece l = HasRead l.text l.reader

abbrev pub decreases-loop-piece : goal.decreases-loop-piece
decreases-loop-piece l = length l.reader.rest
