use Rattle.std.proofs.Common.{[], ◌∷◌, ◌++◌, get_or, length, take, sym, ap, ◌∙◌, arith}
use Rattle.std.specs.Prelude.{option_and_then}
use Rattle.std.proofs.lemmas.List.{flat_map_more, length-append, take_more}
use Rattle.std.proofs.lemmas.Option.{slice_get-get_or}
use Rattle.scr_combinatorics.specs.Stages.{spelled}
use Rattle.scr_combinatorics.proofs.StepLaws.{play-more}
use Rattle.scr_orbit.specs.PowerPuzzles.{after_letter}
use Rattle.scr_notation.specs.declared.event.Event.TheVariants.{C333}
use Rattle.scr_notation.specs.Event.{kind_of}
use Rattle.scr_notation.specs.TurnNumbers.{face_turn_at, turn_at}
use Rattle.scr_notation.proofs.NumberLaws.{turns_333}
use Rattle.scr_notation.specs.Written.{Written}
use Rattle.scr_cube.specs.Cube333.{cube_powers}
use Rattle.scr_cube.specs.ListedTurns.{letter_in, after_of}
use Rattle.scr_cube.proofs.ListedTurns.{after_of-is}
use Rattle.scr_stages.proofs.solving.follow.Goals as goal

pub loop-at-preserved : goal.loop-at-preserved
loop-at-preserved c =
    let turns = c.args.turns.now in
    let word = c.args.word.now in
    let at = c.loop-at.at in
    let before = c.args.solution.now.turns in
    let lt = c.loop-at-test.true in
    let place = c.from.ensures in
    let number = c.from-in-loop-at.ensures ∙ ap (λ k. get_or turns k 0) place in
    let letter = ap (λ f. f (get_or turns c.from.result 0)) turns_333 ∙ ap (λ k. face_turn_at (get_or turns k 0)) place in
    record {
      played = play-more (after_of turns) c.args.cube.now c.loop-at.state word at c.loop-at.invariant.played 0 lt
          ∙ after_of-is turns c.loop-at.state (get_or word at 0)
          ∙ ap (option_and_then (λ t. (after_letter cube_powers) c.loop-at.state (face_turn_at t))) (slice_get-get_or turns (get_or word at 0) 0 (c.requires.word at 0 lt))
          ∙ ap (λ t. (after_letter cube_powers) c.loop-at.state (face_turn_at t)) (sym number)
          ∙ c.turned-state.ensures;
      written = c.push.ensures
          ∙ ap {B = Written} (λ s. record { event = s.event; turns = s.turns ++ turn_at (kind_of s.event) (get_or turns c.from.result 0) ∷ [] }) c.loop-at.invariant.written
          ∙ ap {B = Written} (λ l. record { event = C333; turns = (before ++ spelled (letter_in turns) (take at word)) ++ l ∷ [] }) letter
          ∙ ap {B = Written} (λ ts. record { event = C333; turns = ts })
          (flat_map_more (letter_in turns) before (take at word) (get_or word at 0)
          ∙ ap (λ w. before ++ spelled (letter_in turns) w) (sym (take_more word at 0 lt)));
      longer = omega (
        arith,
        ap (λ s. length s.turns) c.push.ensures,
        length-append c.loop-at.solution.turns (turn_at (kind_of c.loop-at.solution.event) (get_or turns c.from.result 0) ∷ []),
        c.loop-at.invariant.longer,
      );
    }
