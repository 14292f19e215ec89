use Rattle.scr_pages.proofs.CheckLemmas.{passed-one}
use Rattle.scr_pages.proofs.program.skip.Goals as goal

pub loop-group-preserved : goal.loop-group-preserved
loop-group-preserved c =
    passed-one c.loop-group._group c.args.groups.now c.loop-group.groups c.next-passed.new.self c.next-passed.result c.loop-group.invariant
    c.next-passed.ensures.first
