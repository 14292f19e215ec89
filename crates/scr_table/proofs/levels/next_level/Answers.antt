use Rattle.std.proofs.Common.{sym, ◌∙◌, arith}
use Rattle.std.proofs.lemmas.Bool.{false≢true}
use Rattle.scr_table.proofs.BlockLaws.{AreKnown-behind}
use Rattle.scr_table.proofs.levels.next_level.Goals as goal
use Rattle.scr_table.proofs.levels.next_level.Goals.{else-checked-via-then-checked+else-not-are_all_there, else-checked-via-else-checked}

pub returns-clause-known : goal.returns-clause-known
returns-clause-known g c =
    AreKnown-behind (g.C.Coord.coordinate c.args.coord.now) c.count-count.ensures.stays_below c.args.level (omega arith) c.run_chunks.new.out
    c.args.entries.now c.enter_blocks.new.entries (omega arith) (omega arith) c.enter_blocks.ensures c.args.checked c.requires.marked c.requires.known
    c.run_chunks.ensures (λ is.
    elim c.else-checked.branch [
      | else-checked-via-then-checked+else-not-are_all_there w ↦ w.are_all_there.ensures w.if-not-are_all_there.false
      | else-checked-via-else-checked w ↦ absurd (false≢true (sym w.if-checked.false ∙ is))
    ])
