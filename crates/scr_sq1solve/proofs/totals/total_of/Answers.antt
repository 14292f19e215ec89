use Rattle.std.proofs.Common.{sym, ap, ◌∙◌}
use Rattle.std.specs.Prelude.{is_some}
use Rattle.scr_combinatorics.specs.Play.{play}
use Rattle.scr_sq1.specs.Units.{sq1_after}
use Rattle.scr_sq1tables.proofs.ShapeWordLaws.{All-shape_word, play-shape_word, shape_word-goal}
use Rattle.scr_sq1solve.proofs.TotalLaws.{IsTotal-joined}
use Rattle.scr_sq1solve.proofs.totals.total_of.Goals as goal

pub walked-shaped-requires-clause-numbers : goal.walked-shaped-requires-clause-numbers
walked-shaped-requires-clause-numbers c = All-shape_word c.args.state.now c.args.shape_word.now c.requires.shape_word

pub walked-shaped-requires-clause-leads : goal.walked-shaped-requires-clause-leads
walked-shaped-requires-clause-leads c = ap is_some (play-shape_word c.args.state.now c.args.shape_word.now c.requires.shape_word)

pub end_walk-squared-requires-clause-word : goal.end_walk-squared-requires-clause-word
end_walk-squared-requires-clause-word c =
    let s = c.args.state.now in
    let shaped = c.walked-shaped in
    shape_word-goal s c.args.shape_word.now c.requires.shape_word shaped.result.end
    (ap (play sq1_after s) (sym shaped.ensures.turns) ∙ shaped.ensures.end)

pub returns-clause-total : goal.returns-clause-total
returns-clause-total c =
    IsTotal-joined c.walked-shaped.ensures.turns c.walked-shaped.ensures.end c.end_walk-squared.ensures.walk
    c.stage_walk-paired.ensures.walk c.stage_walk-homed.ensures.walk c.end_walk-last.ensures.walk c.equator_part.result.turns
    c.joined-homing.ensures.word c.joined-pairing.ensures.word c.joined-squaring.ensures.word c.joined-shaping.ensures.word
    c.equator_part.ensures.turns c.joined.ensures.word
