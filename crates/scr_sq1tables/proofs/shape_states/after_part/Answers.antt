use Rattle.std.proofs.Common.{Some, sym, ap, ◌∙◌, arith}
use Rattle.scr_combinatorics.specs.Play.{play}
use Rattle.scr_sq1.specs.Units.{sq1_after}
use Rattle.scr_sq1tables.specs.Parts.{shape_part}
use Rattle.scr_sq1tables.proofs.ShapeStage.{play-twist}
use Rattle.scr_sq1tables.proofs.shape_states.after_part.Goals as goal

pub returns-else-part-lt24 : goal.returns-else-part-lt24
returns-else-part-lt24 c =
    ap Some c.twist.ensures.value
    ∙ sym (ap (λ n. play sq1_after c.args.state.now (shape_part n)) {x = c.args.part} {y = 24} (omega arith) ∙ play-twist c.args.state.now)
