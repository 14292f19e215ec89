use Rattle.scr_positions.specs.Moves.{moves_coordinate}
use Rattle.scr_positions.proofs.StaysBelowLaws.{StaysBelow-moves}
use Rattle.scr_sq1tables.specs.Letters.{letter_of}
use Rattle.scr_sq1tables.proofs.HomeStage.{StaysBelow-rows}
use Rattle.scr_sq1tables.proofs.edge_rows.EdgeRows.new.Goals as goal

pub invariant_of-result-clause-stays : goal.invariant_of-result-clause-stays
invariant_of-result-clause-stays c =
    StaysBelow-rows (letter_of c.args.letters) (moves_coordinate c.args.edges.now) c.requires (StaysBelow-moves c.args.edges.now)
