use Rattle.std.proofs.Common.{◌≡◌, ◌+◌, ◌-◌, ◌*◌, ◌/◌, ◌%◌, ◌<◌, slice_get, None, Some, cond, length, refl, sym, ap, ◌∙◌, arith}
use Rattle.std.proofs.lemmas.Bool.{le-ltb, lt-ltb}
use Rattle.std.proofs.lemmas.List.{length_push}
use Rattle.scr_notation.specs.Written.{Written}
use Rattle.scr_bigs.specs.LeftOut.{number_of_choice}
use Rattle.scr_bigs.proofs.MoveLaws.{Outcome, OnErr-always, none-made, one-more, none-more, all-made}
use Rattle.scr_bigs.proofs.TurnOrder.{left-after, turn-at, turn-permitted, turn_numbered}
use Rattle.scr_bigs.specs.BigCubes.{cube_turns}
use Rattle.std.proofs.lemmas.Bool.Decides.{nat_tests}
use Rattle.scr_bigs.proofs.cube_moves.big_cube.Goals as goal
use Rattle.scr_bigs.proofs.cube_moves.big_cube.Goals.{in-5, in-6, in_default, then-choice-left_out, else-choice-left_out, then-place-near, else-place-near}

pub loop-made-init : goal.loop-made-init
loop-made-init g c =
    let none = ap (λ (s : Written). s.turns) c.new-scramble.ensures.value in
    record {
      made = rw none (none-made g.row.SIDE c.args.attempts _ _ c.requires.side);
      event = ap (λ (s : Written). s.event) c.new-scramble.ensures.value ∙ elim c.match-side.branch [
        | in-5 w ↦ w.new-is ∙ grind (arith, nat_tests)
        | in-6 w ↦ w.new-is ∙ grind (arith, nat_tests)
        | in_default w ↦ w.new-is ∙ grind (arith, nat_tests)
      ];
      count = ap length none;
      room = omega arith;
    }

pub returns-in_err-choice-clause-refused : goal.returns-in_err-choice-clause-refused
returns-in_err-choice-clause-refused g c =
    OnErr-always c.from_residual.result
    (ap (λ (o : Outcome). o.turns)
    (none-more c.loop-made.invariant.made None _ c.in_err-choice.ensures.number c.choose.ensures.taken
    _ c.loop-made-test.true refl refl))

pub returns-in_err-choice-clause-taken : goal.returns-in_err-choice-clause-taken
returns-in_err-choice-clause-taken g c =
    sym (ap (λ (o : Outcome). o.place)
    (none-more c.loop-made.invariant.made None _ c.in_err-choice.ensures.number c.choose.ensures.taken
    _ c.loop-made-test.true refl refl))

pub push_turn-requires-clause-of_event : goal.push_turn-requires-clause-of_event
unfolding turn_numbered
push_turn-requires-clause-of_event g c =
    let n = c.if-choice-left_out.number in
    let below : n < 9 * (g.row.SIDE - 1) = elim c.if-choice-left_out.branch [
      | then-choice-left_out w ↦ rw w.number-is (omega (arith, c.in_ok-choice.ensures.below))
      | else-choice-left_out w ↦ rw w.number-is (omega (arith, c.in_ok-choice.ensures.below))
    ] in
    let made : c.if-place-near.turn ≡ turn_numbered g.row.SIDE n = elim c.if-place-near.branch [
      | then-place-near w ↦ rw (lt-ltb (n / 3 % (g.row.SIDE - 1)) (g.row.SIDE / 2) w.if-place-near.true) w.turn-is
      | else-place-near w ↦ rw (le-ltb (n / 3 % (g.row.SIDE - 1)) (g.row.SIDE / 2) w.if-place-near.false) w.turn-is
    ] in
    let at : slice_get (cube_turns g.row.SIDE) n ≡ Some c.if-place-near.turn =
    turn-at g.row.SIDE n c.requires.side below ∙ ap Some (sym made) in
    rw c.loop-made.invariant.event (turn-permitted g.row.SIDE _ _ c.requires.side at)

pub loop-made-preserved : goal.loop-made-preserved
unfolding turn_numbered
loop-made-preserved g c =
    let before = c.loop-made.invariant in
    let left_out = c.loop-made.left_out in
    let choice = c.in_ok-choice.choice in
    let number : c.if-choice-left_out.number ≡ number_of_choice left_out.first left_out.count choice =
    elim c.if-choice-left_out.branch [
      | then-choice-left_out w ↦
          w.number-is ∙ sym (ap (λ b. cond b choice (choice + left_out.count)) (lt-ltb choice left_out.first w.if-choice-left_out.true))
      | else-choice-left_out w ↦
          w.number-is ∙ sym (ap (λ b. cond b choice (choice + left_out.count)) (le-ltb choice left_out.first w.if-choice-left_out.false))
    ] in
    let n = c.if-choice-left_out.number in
    let below : n < 9 * (g.row.SIDE - 1) = elim c.if-choice-left_out.branch [
      | then-choice-left_out w ↦ rw w.number-is (omega (arith, c.in_ok-choice.ensures.below))
      | else-choice-left_out w ↦ rw w.number-is (omega (arith, c.in_ok-choice.ensures.below))
    ] in
    let made : c.if-place-near.turn ≡ turn_numbered g.row.SIDE n = elim c.if-place-near.branch [
      | then-place-near w ↦ rw (lt-ltb (n / 3 % (g.row.SIDE - 1)) (g.row.SIDE / 2) w.if-place-near.true) w.turn-is
      | else-place-near w ↦ rw (le-ltb (n / 3 % (g.row.SIDE - 1)) (g.row.SIDE / 2) w.if-place-near.false) w.turn-is
    ] in
    let at : slice_get (cube_turns g.row.SIDE) n ≡ Some c.if-place-near.turn =
    turn-at g.row.SIDE n c.requires.side below ∙ ap Some (sym made) in
    let turns = ap (λ (s : Written). s.turns) c.push_turn.ensures.value in
    let size = ap length turns ∙ length_push c.loop-made.scramble.turns c.if-place-near.turn in
    record {
      made = rw turns
          (one-more before.made (Some c.in_ok-choice.choice) _ c.in_ok-choice.ensures.number c.choose.ensures.taken
          _ c.loop-made-test.true refl c.in_ok-choice.choice c.if-place-near.turn _ _ _ refl
          c.in_ok-choice.ensures.below (rw number at at)
          (left-after g.row.SIDE _ c.if-place-near.turn c.requires.side at) c.choose.ensures.same_words);
      event = ap (λ (s : Written). s.event) c.push_turn.ensures.value ∙ before.event;
      count = omega (arith, size, before.count);
      room = omega (arith, before.room, c.choose.ensures.at_most, c.requires.few);
    }

pub returns-clause-turns : goal.returns-clause-turns
returns-clause-turns g c =
    ap (λ (o : Outcome). o.turns) (all-made c.loop-made.invariant.made _ c.loop-made-test.false refl)

pub returns-clause-taken : goal.returns-clause-taken
returns-clause-taken g c =
    let whole = all-made c.loop-made.invariant.made _ c.loop-made-test.false refl in
    sym (ap (λ (o : Outcome). o.place) whole)
