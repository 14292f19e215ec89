use Rattle.scr_small.proofs.PartLaws.{low_place}
use Rattle.scr_small.proofs.parts.LowPartCoord.after.Goals as goal

pub state_at-state-requires : goal.state_at-state-requires
state_at-state-requires g c =
    let table = g.P.OneTable.TABLE in
    let l = c.numbers.ensures.solved in
    rw (c.from.ensures, c.numbers.ensures.count)
    (low_place table.low table.high _ c.args.position l.by_parts.pairs l.lawful.numbering.some c.requires.position)
