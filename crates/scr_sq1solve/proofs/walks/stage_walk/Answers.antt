use Rattle.std.proofs.Common.{sym, ap, ◌∙◌, subst, arith}
use Rattle.std.specs.Prelude.{◌<◌, is_some}
use Rattle.scr_combinatorics.specs.Play.{play}
use Rattle.scr_combinatorics.specs.Stages.{spelled, IsStageWord}
use Rattle.scr_combinatorics.proofs.StageLaws.{play-stage_word}
use Rattle.scr_sq1.specs.Units.{sq1_after}
use Rattle.scr_sq1tables.specs.Letters.{stage_of, letter_of}
use Rattle.scr_sq1solve.specs.Walks.{starts_of}
use Rattle.scr_sq1solve.proofs.TotalLaws.{IsStageWord-found, IsWalk-played, below-word, walk-goal, walk-kept, walk-costs}
use Rattle.scr_sq1solve.proofs.walks.stage_walk.Goals as goal
use Rattle.scr_sq1solve.proofs.walks.stage_walk.Given.{Over}
use Rattle.scr_sq1solve.proofs.walks.stage_walk.Goals.{After-deref}

pub descend-word-requires : goal.descend-word-requires
descend-word-requires g c =
    subst (λ i. i < g.L.Line.line.coordinate.count) (sym c.requires.index) (g.met.L.StageLine.follows.valid c.args.state.now c.requires.start)

-- the word that is found is that of the stage
is_word : (g : Over) (c : After-deref g) → IsStageWord sq1_after (stage_of g.L.StageLine.LETTERS) c.args.state.now c.deref.result.now
is_word g c =
    let letters = g.L.StageLine.LETTERS in
    subst (IsStageWord sq1_after (stage_of letters) c.args.state.now) (sym c.deref.ensures.0)
    (IsStageWord-found (stage_of letters) (starts_of letters) g.L.Line.line g.L.StageLine.view g.met.L.StageLine.follows g.met.L.StageLine.in_reach.within
    c.args.table.now c.descend-word.ensures.table c.args.state.now c.args.index c.descend-word.result.items c.requires.start c.requires.index c.descend-word.ensures.first)

pub walked-requires-clause-numbers : goal.walked-requires-clause-numbers
walked-requires-clause-numbers g c =
    below-word (stage_of g.L.StageLine.LETTERS) c.args.state.now c.deref.result.now (is_word g c) g.met.L.StageLine.in_reach.few_letters

pub walked-requires-clause-few : goal.walked-requires-clause-few
walked-requires-clause-few g c = omega (arith, (is_word g c).within, ap (λ k. (stage_of k).bound) c.LETTERS.ensures)

pub walked-requires-clause-leads : goal.walked-requires-clause-leads
walked-requires-clause-leads g c =
    let s = c.args.state.now in
    let word = c.deref.result.now in
    ap is_some (ap (λ k. play sq1_after s (spelled (letter_of k) word)) c.LETTERS.ensures
    ∙ play-stage_word sq1_after (stage_of g.L.StageLine.LETTERS) s word (is_word g c))

pub returns-clause-walk : goal.returns-clause-walk
returns-clause-walk g c =
    let word = c.deref.result.now in
    IsWalk-played (stage_of g.L.StageLine.LETTERS) c.args.state.now c.walked.result.end word c.walked.result.turns.turns
    (is_word g ((goal.at.returns-clause-walk g c).After-deref)) (c.walked.ensures.turns ∙ ap (λ k. spelled (letter_of k) word) c.LETTERS.ensures) c.walked.ensures.end

pub returns-clause-goal : goal.returns-clause-goal
returns-clause-goal g c = walk-goal (returns-clause-walk g c)

pub returns-clause-kept : goal.returns-clause-kept
returns-clause-kept g c =
    walk-kept (returns-clause-walk g c) (starts_of g.L.StageLine.LETTERS) g.L.Line.line g.L.StageLine.view g.met.L.StageLine.follows c.requires.start

pub returns-clause-costs : goal.returns-clause-costs
returns-clause-costs g c = walk-costs g.L.StageLine.LETTERS (returns-clause-walk g c)
