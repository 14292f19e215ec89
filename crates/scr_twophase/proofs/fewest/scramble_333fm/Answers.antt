use Rattle.std.proofs.Common.{◌≡◌, ◌≤◌, ◌+◌, IsTrue, Some, [], ◌∷◌, ◌++◌, length, length-append, sym, ap, ◌∙◌, subst, arith}
use Rattle.std.specs.Prelude.{is_some}
use Rattle.std.proofs.lemmas.Option.{same_Some}
use Rattle.scr_combinatorics.specs.Play.{play}
use Rattle.scr_orbit.specs.PowerPuzzles.{after_letter}
use Rattle.scr_notation.specs.declared.event.Event.TheVariants.{Fm333}
use Rattle.scr_notation.specs.TurnNumbers.{turn_at, face_turn_at}
use Rattle.scr_notation.specs.Written.{Written, numbered_word}
use Rattle.scr_cube.specs.Cube333.{CubeState, cube_powers, solved_cube}
use Rattle.scr_twophase.specs.TwoParts.{two_parts, IsScramble333}
use Rattle.scr_twophase.specs.Fewest.{frame, frame_back, between, is_framed, IsScrambleFewest}
use Rattle.scr_twophase.proofs.FewestLaws.{framed, length-frame, frame_back-made, between-made, framed-played, length-framed, is_framed-framed, IsScrambleFewest-unique}
use Rattle.scr_twophase.proofs.fewest.scramble_333fm.Goals as goal

-- the frame, spelled
spelled : (w : Written) → w ≡ numbered_word Fm333 (5 ∷ 2 ∷ 6 ∷ []) → w ≡ record { event = Fm333; turns = frame }
unfolding frame turn_at face_turn_at
spelled w e = e

-- the frame taken back leads somewhere
pub unreachable-requires : goal.unreachable-requires
unreachable-requires c =
    c.in_default.not-Some frame_back
    (frame_back-made c.solved.result c.of-frame.result.turns c.taken_back.result.turns c.play.result c.solved.ensures
    (ap (λ (w : Written). w.turns) (spelled c.of-frame.result c.of-frame.ensures)) (ap (λ (w : Written). w.turns) c.taken_back.ensures) c.play.ensures)

pub push_all-requires-clause-room : goal.push_all-requires-clause-room
push_all-requires-clause-room c =
    let size = λ (w : Written). length w.turns in
    omega (
      arith,
      ap size (c.scramble-scramble.ensures ∙ spelled c.of-frame.result c.of-frame.ensures),
      length-frame,
      ap size c.with_event-middle.ensures,
      c.scramble_333.ensures.scramble.within,
    )

pub push_all-requires-2-clause-room : goal.push_all-requires-2-clause-room
push_all-requires-2-clause-room c =
    let size = λ (w : Written). length w.turns in
    omega (
      arith,
      ap size c.push_all.ensures,
      length-append c.scramble-scramble.result.turns c.with_event-middle.result.turns,
      ap size (c.scramble-scramble.ensures ∙ spelled c.of-frame.result c.of-frame.ensures),
      ap size (c.scramble.ensures ∙ spelled c.of-frame.result c.of-frame.ensures),
      length-frame,
      ap size c.with_event-middle.ensures,
      c.scramble_333.ensures.scramble.within,
    )

-- the cube that is scrambled is the one between
is_between : (c : goal.After-push_all-2) → c.then-between.result ≡ between c.args.cube.now
is_between c =
    let back = frame_back-made c.solved.result c.of-frame.result.turns c.taken_back.result.turns c.play.result c.solved.ensures
    (ap (λ (w : Written). w.turns) (spelled c.of-frame.result c.of-frame.ensures)) (ap (λ (w : Written). w.turns) c.taken_back.ensures) c.play.ensures in
    between-made c.args.cube.now c.in-Some.back c.then.result c.then-between.result
    (same_Some c.in-Some.back frame_back (sym c.in-Some.is ∙ back)) c.then.ensures.joined c.then-between.ensures.joined

made : (c : goal.After-push_all-2) → c.push_all-2.new.scramble ≡ record { event = Fm333; turns = framed c.scramble_333.result.turns }
made c =
    let word = spelled c.of-frame.result c.of-frame.ensures in
    let first = c.push_all.ensures ∙ ap (λ (s : Written). record { event = s.event; turns = s.turns ++ c.with_event-middle.result.turns }) (c.scramble-scramble.ensures ∙ word) in
    c.push_all-2.ensures
    ∙ ap (λ (s : Written). record { event = s.event; turns = s.turns ++ c.scramble.result.turns }) first
    ∙ ap (λ (s : Written). record { event = Fm333; turns = (frame ++ c.with_event-middle.result.turns) ++ s.turns }) (c.scramble.ensures ∙ word)
    ∙ ap (λ (s : Written). record { event = Fm333; turns = framed s.turns }) c.with_event-middle.ensures

whole : (c : goal.After-push_all-2) → c.push_all-2.new.scramble.turns ≡ framed c.scramble_333.result.turns
whole c = ap (λ (w : Written). w.turns) (made c)

pub returns : goal.returns
returns c =
    let cube = c.args.cube.now in
    let middle = c.scramble_333.result.turns in
    let inner = c.scramble_333.ensures in
    let Scramble : CubeState → Type 0 = λ b. IsScramble333 c.args.tries b middle in
    let Few : CubeState → Type 0 = λ b. IsTrue (is_some (two_parts b c.args.tries)) → length middle ≤ 22 in
    let size : length c.push_all-2.new.scramble.turns ≡ length middle + 6 = ap length (whole c) ∙ length-framed middle in
    let scramble : IsScrambleFewest c.args.tries cube c.push_all-2.new.scramble.turns =
    record { middle = middle; scramble = subst Scramble (is_between c) inner.scramble.scramble; whole = whole c } in
    record {
      scramble = record {
        of_event = ap (λ (w : Written). w.event) (made c);
        scramble = scramble;
        only = λ turns other. IsScrambleFewest-unique c.args.tries cube turns c.push_all-2.new.scramble.turns other scramble;
        within = omega (arith, size, inner.scramble.within);
        gives = ap (play (after_letter cube_powers) solved_cube) (whole c)
            ∙ framed-played cube middle c.then.ensures.valid (inner.scramble.gives ∙ ap Some (is_between c));
      };
      framed = record { middle = middle; whole = whole c };
      tested = ap is_framed (whole c) ∙ is_framed-framed middle;
      few = λ some. let least = subst Few (is_between c) inner.few some in omega (arith, size, least);
    }
