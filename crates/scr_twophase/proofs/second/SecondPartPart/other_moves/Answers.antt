use Rattle.std.proofs.Common.{lit<, lit≤, rules}
use Rattle.scr_stages.proofs.StageWords.{outer_moves}
use Rattle.scr_twophase.proofs.second.SecondPartPart.other_moves.Goals as goal

pub edge_moves-requires : goal.edge_moves-requires
edge_moves-requires c = (lit< tt, ((lit≤ tt, lit≤ tt), (lit< tt, (search rules, outer_moves))))
