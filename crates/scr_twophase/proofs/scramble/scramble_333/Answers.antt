use Rattle.std.proofs.Common.{◌≤◌, length, sym, ap, ◌∙◌, subst, arith}
use Rattle.std.specs.Prelude.{is_some}
use Rattle.std.proofs.lemmas.Bool.{false≢true}
use Rattle.scr_combinatorics.specs.Play.{play}
use Rattle.scr_combinatorics.specs.Back.{back}
use Rattle.scr_orbit.specs.PowerPuzzles.{after_letter}
use Rattle.scr_notation.specs.Written.{Written}
use Rattle.scr_notation.proofs.OppositeLaws.{length-back}
use Rattle.scr_notation.specs.Turning.{opposite}
use Rattle.scr_cube.specs.Cube333.{cube_powers, solved_cube}
use Rattle.scr_cube.proofs.Laws333.{lawful_cube}
use Rattle.scr_twophase.specs.TwoParts.{two_parts}
use Rattle.scr_twophase.proofs.MinimaLaws.{play-spelled}
use Rattle.scr_twophase.proofs.PartLaws.{IsScrambleBy, IsScrambleBy-unique, IsWordOf-some, no_parts, two_parts-played}
use Rattle.scr_twophase.proofs.scramble.scramble_333.Goals as goal

pub returns-in-Some : goal.returns-in-Some
returns-in-Some c =
    let cube = c.args.cube.now in
    let parts = two_parts cube c.args.tries in
    let word = IsWordOf-some parts c.in-Some.word c.in-Some.ensures.parts in
    let turns = ap (λ (w : Written). w.turns) c.taken_back.ensures in
    let played = ap (play (after_letter cube_powers) cube) word.spelled ∙ play-spelled cube word.word ∙ two_parts-played cube c.args.tries word.word word.parts in
    let scramble = subst (λ o. IsScrambleBy o cube c.taken_back.result.turns) (sym word.parts) (turns ∙ ap (back opposite) word.spelled) in
    let few : length c.taken_back.result.turns ≤ 22 = omega (arith, ap length turns, length-back c.in-Some.word.turns, c.in-Some.ensures.few) in
    record {
      scramble = record {
        of_event = ap (λ (w : Written). w.event) c.taken_back.ensures ∙ word.of_event;
        scramble = scramble;
        only = λ other h. IsScrambleBy-unique parts cube other c.taken_back.result.turns h scramble;
        within = omega (arith, few);
        gives = ap (play (after_letter cube_powers) solved_cube) turns
            ∙ lawful_cube.lawful.taken_back cube solved_cube c.in-Some.word.turns c.in-Some.ensures.valid played;
      };
      few = λ _. few;
    }

pub returns-in-None : goal.returns-in-None
returns-in-None c =
    let cube = c.args.cube.now in
    let parts = two_parts cube c.args.tries in
    let none = no_parts parts c.in-None.ensures.parts in
    let by_stages = c.scramble_by_stages.ensures in
    let scramble = subst (λ o. IsScrambleBy o cube c.scramble_by_stages.result.turns) (sym none) by_stages.scramble in
    record {
      scramble = record {
        of_event = by_stages.of_event;
        scramble = scramble;
        only = λ other h. IsScrambleBy-unique parts cube other c.scramble_by_stages.result.turns h scramble;
        within = by_stages.within;
        gives = by_stages.gives;
      };
      few = λ some. absurd (false≢true (sym (ap is_some none) ∙ some));
    }
