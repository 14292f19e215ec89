use Rattle.scr_stages.proofs.TurnArrays.{AreTurned-whole, corners_whole}
use Rattle.scr_stages.proofs.stage_turns.corners_turned.Goals as goal

pub returns : goal.returns
returns g c =
    AreTurned-whole 8 3 (λ r. r.corners) corners_whole c.block_turns.result c.corner_turns.result.now c.corner_turns.ensures.defined c.args.numbers.now c.requires.numbers
    c.block_turns.ensures (λ r valid. valid.corners) _ c.told-numbers c.requires.count.0 c.requires.count.1
