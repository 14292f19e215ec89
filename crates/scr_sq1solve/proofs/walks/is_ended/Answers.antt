use Rattle.std.proofs.Common.{IsTrue, sym, ◌∙◌, subst, eqb-true, eq-eqb}
use Rattle.std.specs.Prelude.{◌↔◌, ◌==◌}
use Rattle.scr_sq1tables.specs.Letters.{stage_of}
use Rattle.scr_sq1tables.proofs.ShapeStage.{IsNormal-iff, normal_index}
use Rattle.scr_sq1solve.proofs.walks.is_ended.Goals as goal

pub returns-in-Squarings : goal.returns-in-Squarings
returns-in-Squarings c =
    let normal = IsNormal-iff c.args.state.now c.shapes_index.ensures.valid in
    let index = c.shapes_index.result in
    subst (λ l. IsTrue (index == 2344) ↔ (stage_of l).IsGoal c.args.state.now) (sym c.in-Squarings.is) (
      λ t. normal.1 (sym c.shapes_index.ensures.value ∙ eqb-true index 2344 t ∙ sym normal_index),
      λ n. eq-eqb index 2344 (c.shapes_index.ensures.value ∙ normal.0 n ∙ normal_index),
    )
