use Rattle.std.proofs.Common.{◌≡◌, ◌++◌, length, ap, ◌∙◌, subst, arith}
use Rattle.std.proofs.lemmas.List.{length-append}
use Rattle.scr_tetra.specs.Pyraminx.{TetraminxState}
use Rattle.scr_tetra.specs.PyramParts.{tips_word}
use Rattle.scr_small.specs.NumberedPuzzles.{IsScrambleOf}
use Rattle.scr_small.specs.Puzzles.{numbered_puzzle_tetraminx, IsScramblePyram}
use Rattle.scr_small.proofs.PyramLaws.{few_tips, play-scrambled_pyram, IsScramblePyram-unique}
use Rattle.scr_small.proofs.small_pyram.scramble_pyram.Goals as goal

pub returns : goal.returns
returns c =
    let s = c.args.state.now in
    let valid = c.body.ensures.valid in
    let of_body = c.scramble_of-scramble.ensures in
    let large = c.scramble_of-scramble.result.turns in
    let turns = c.push_tips.new.scramble.turns in
    let whole : turns ≡ large ++ tips_word s.tips = ap (λ w. w.turns) c.push_tips.ensures ∙ ap (λ tips. large ++ tips_word tips) c.tips.ensures.same in
    let Own : TetraminxState → Type 0 = λ body. IsScrambleOf numbered_puzzle_tetraminx body large in
    let is : IsScramblePyram s turns =
    record { large = large; without_tips = subst Own c.body.ensures.same of_body.scramble; with_tips = whole } in
    record {
      of_event = ap (λ w. w.event) c.push_tips.ensures;
      scramble = is;
      only = λ other of_other. IsScramblePyram-unique s other turns of_other is;
      within = omega (arith, ap length whole, length-append large (tips_word s.tips), few_tips s valid, of_body.within);
      gives = play-scrambled_pyram s turns valid is;
    }
