use Rattle.std.proofs.Common.{lit<, lit≤, rules}
use Rattle.scr_stages.specs.Stages.{middle_edges, domino_turns}
use Rattle.scr_stages.proofs.DominoLaws.{IsPermutation-middle}
use Rattle.scr_stages.proofs.TurnFacts.{tetrads_each, All-block_turns}
use Rattle.scr_twophase.proofs.second.SecondPartPart.middle_moves.Goals as goal

-- the ten turns carry the edges of the middle layer among its places
pub edge_moves-requires : goal.edge_moves-requires
edge_moves-requires c =
    (lit< tt, ((lit≤ tt, lit≤ tt), (lit< tt, (search rules, All-block_turns domino_turns tetrads_each 4 middle_edges IsPermutation-middle))))
