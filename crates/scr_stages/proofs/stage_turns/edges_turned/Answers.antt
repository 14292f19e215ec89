use Rattle.scr_stages.proofs.TurnArrays.{AreTurned-whole, edges_whole}
use Rattle.scr_stages.proofs.stage_turns.edges_turned.Goals as goal

pub returns : goal.returns
returns g c =
    AreTurned-whole 12 2 (λ r. r.edges) edges_whole c.block_turns.result c.edge_turns.result.now c.edge_turns.ensures.defined c.args.numbers.now c.requires.numbers
    c.block_turns.ensures (λ r valid. valid.edges) _ c.told-numbers c.requires.count.0 c.requires.count.1
