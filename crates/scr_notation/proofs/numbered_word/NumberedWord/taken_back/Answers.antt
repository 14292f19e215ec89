use Rattle.std.proofs.Common.{◌≡◌, ◌-◌, ◌<◌, ◌≤◌, List, length, get_or, refl, ap, sym, arith}
use Rattle.std.specs.Prelude.{◌==◌, nat_lt}
use Rattle.scr_notation.specs.declared.turn.Turn.{Turn}
use Rattle.scr_notation.specs.Event.{kind_of}
use Rattle.scr_notation.specs.Written.{Written}
use Rattle.scr_notation.specs.TurnNumbers.{turn_at, turn_count}
use Rattle.scr_notation.specs.Turning.{opposite}
use Rattle.scr_notation.proofs.NumberTurns.{undoes_at, face_back, axis_back, layer_back, clock_back, wide_back}
use Rattle.scr_notation.proofs.TidyingLaws.{back-more}
use Rattle.scr_notation.proofs.numbered_word.NumberedWord.taken_back.Goals.{in-Faces, in-LayersAndTwist, in-PinSets, in-Axes, in-WideTurns}
use Rattle.scr_notation.proofs.numbered_word.NumberedWord.taken_back.Goals as goal

pub loop-place-preserved : goal.loop-place-preserved
unfolding turn_at
loop-place-preserved c =
    let kind = c.row-kind.result.kind in
    let place = c.loop-place.place in
    let numbers = c.self.inside.numbers.items in
    let event = c.self.inside.event in
    let n = get_or c.deref.result.now (place - 1) 0 in
    let within : place ≤ length numbers = omega (arith, c.loop-place.auto.place, c.len-place.ensures.value) in
    let below : n < turn_count kind = rw (c.deref.ensures.0, c.row-kind.ensures.kind) (c.self.invariant (place - 1) 0 (omega (arith, within, c.loop-place-test.true))) in
    let undone : turn_at kind c.match-kind.opposite ≡ opposite (turn_at kind n) = elim c.match-kind.branch [
      | in-Faces w ↦ rw w.opposite-is (undoes_at _ n w.in-Faces.is (face_back n))
      | in-LayersAndTwist w ↦
          rw w.opposite-is
          (undoes_at _ n w.in-LayersAndTwist.is (layer_back n (n == 65) (omega (arith, below, ap turn_count w.in-LayersAndTwist.is)) refl))
      | in-PinSets w ↦
          rw w.opposite-is (undoes_at _ n w.in-PinSets.is (clock_back n (n == 108) (omega (arith, below, ap turn_count w.in-PinSets.is)) refl))
      | in-Axes w ↦ rw w.opposite-is (undoes_at _ n w.in-Axes.is (axis_back n (nat_lt n 8) refl))
      | in-WideTurns w ↦ rw w.opposite-is (undoes_at _ n w.in-WideTurns.is (wide_back n))
    ] in
    rw (c.push_turn.ensures.value, c.loop-place.invariant, c.turn_at.ensures.value, undone, c.row-kind.ensures.kind, c.deref.ensures.0)
    (ap (λ (turns : List Turn). let word : Written = record { event = event; turns = turns } in word)
    (sym (back-more (kind_of event) numbers place 0 (omega (arith, c.loop-place-test.true)) within)))
