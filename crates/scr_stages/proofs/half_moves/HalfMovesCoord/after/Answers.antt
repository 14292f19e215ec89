use Rattle.scr_stages.proofs.HalfSteps.{AreParts-at, turned_below, turned_number}
use Rattle.scr_stages.proofs.half_moves.HalfMovesCoord.after.Goals as goal

pub half_number-requires : goal.half_number-requires
half_number-requires c =
    turned_below c.args.self.now c.args.position c.requires.position _ _ _ _ _ _ _ _ (AreParts-at c.args.self.now c.args.position c.requires.position)
    c.args.turn c.requires.turn (rw c.from.ensures at c.target.ensures) c.target-2.ensures c.target-3.ensures c.target-4.ensures

pub returns-clause-leads : goal.returns-clause-leads
returns-clause-leads c =
    turned_number c.args.self.now c.args.position c.requires.position _ _ _ _ _ _ _ _ (AreParts-at c.args.self.now c.args.position c.requires.position)
    c.args.turn c.requires.turn (rw c.from.ensures at c.target.ensures) c.target-2.ensures c.target-3.ensures c.target-4.ensures c.half_number.result c.half_number.ensures.number
