use Rattle.std.proofs.Common.{sym, ap, subst, ◌∙◌}
use Rattle.scr_combinatorics.specs.Stages.{IsSolution}
use Rattle.scr_combinatorics.proofs.StageLaws.{IsSolution-unique}
use Rattle.scr_orbit.specs.PowerPuzzles.{after_letter}
use Rattle.scr_notation.specs.Written.{Written}
use Rattle.scr_cube.specs.Cube333.{cube_powers}
use Rattle.scr_stages.specs.Stages.{stages}
use Rattle.scr_stages.proofs.SolutionLaws.{solution-at_most, solution-played}
use Rattle.scr_stages.proofs.solving.solve_stages.Goals as goal

pub returns : goal.returns
returns c =
    let solution : IsSolution (after_letter cube_powers) stages c.args.cube.now c.scramble.result.turns =
    subst (λ (w : Written). IsSolution (after_letter cube_powers) stages c.args.cube.now w.turns) (sym c.scramble.ensures) c.stage_words.ensures.solution in
    record {
      event = ap (λ (w : Written). w.event) c.scramble.ensures ∙ c.stage_words.ensures.event;
      at_most = solution-at_most c.args.cube.now c.scramble.result.turns solution;
      solution = solution;
      only = λ turns other. IsSolution-unique (after_letter cube_powers) stages c.args.cube.now turns c.scramble.result.turns other solution;
      played = solution-played c.args.cube.now c.scramble.result.turns solution;
      valid = c.stage_words.ensures.valid;
    }
