use Rattle.std.proofs.Common.{ap, ◌∙◌}
use Rattle.scr_combinatorics.specs.Back.{back}
use Rattle.scr_notation.specs.Turning.{opposite}
use Rattle.scr_stages.specs.Stages.{IsStageScramble}
use Rattle.scr_stages.proofs.SolutionLaws.{scramble-at_most, scramble-played, IsStageScramble-unique}
use Rattle.scr_stages.proofs.solving.scramble_by_stages.Goals as goal

pub returns : goal.returns
returns c =
    let cube = c.args.cube.now in
    let turns = c.taken_back.result.turns in
    let solved = c.stage_words in
    let tidied = c.tidied.ensures.value in
    let inverted = c.taken_back.ensures in
    let is : IsStageScramble cube turns = record {
      solution = solved.result.turns;
      is = solved.ensures.solution;
      taken_back = ap (λ w. w.turns) inverted ∙ ap (λ w. back opposite w.turns) tidied;
    } in
    record {
      of_event = ap (λ w. w.event) inverted ∙ ap (λ w. w.event) tidied ∙ solved.ensures.event;
      scramble = is;
      only = λ other by. IsStageScramble-unique cube other turns by is;
      within = scramble-at_most cube turns is;
      gives = scramble-played cube turns solved.ensures.valid is;
    }
