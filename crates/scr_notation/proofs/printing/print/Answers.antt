use Rattle.std.proofs.Common.{◌≡◌, ◌+◌, ◌≤◌, [], ◌∷◌, cond, length, take, ap, ◌∙◌, sym, arith}
use Rattle.scr_notation.specs.declared.turn.Turn.TheVariants.{Face}
use Rattle.scr_notation.specs.Spelling.{text_of}
use Rattle.scr_notation.proofs.ReadLaws.{print-room, print-more, gap_before, with_gap}
use Rattle.scr_notation.proofs.printing.print.Goals.{then-is_empty, else-is_empty}
use Rattle.scr_notation.proofs.printing.print.Goals as goal

pub push_str-requires : goal.push_str-requires
push_str-requires c =
    let e = c.turns-turn-items.ensures.value in
    let room = print-room c.args.scramble.now c.loop-turn.turn-index c.loop-turn.text.bytes c.event-event.ensures.valid
    (omega (arith, ap length e)) (c.loop-turn.invariant ∙ ap (λ x. text_of (take c.loop-turn.turn-index x)) e) in
    let one : length c.if-is_empty.push_str.now ≤ 1 = elim c.if-is_empty.branch [
      | then-is_empty w ↦ rw w.push_str-is (omega arith)
      | else-is_empty w ↦ rw w.push_str-is (omega arith)
    ] in
    omega (arith, room, one)

pub push_str-requires-in-loop-turn : goal.push_str-requires-in-loop-turn
push_str-requires-in-loop-turn c =
    let e = c.turns-turn-items.ensures.value in
    let room = print-room c.args.scramble.now c.loop-turn.turn-index c.loop-turn.text.bytes c.event-event.ensures.valid
    (omega (arith, ap length e)) (c.loop-turn.invariant ∙ ap (λ x. text_of (take c.loop-turn.turn-index x)) e) in
    let one : length c.if-is_empty.push_str.now ≤ 1 = elim c.if-is_empty.branch [
      | then-is_empty w ↦ rw w.push_str-is (omega arith)
      | else-is_empty w ↦ rw w.push_str-is (omega arith)
    ] in
    omega (arith, room, one, c.push_str.ensures.len, c.as_str.ensures.fits)

pub loop-turn-preserved : goal.loop-turn-preserved
loop-turn-preserved c =
    let e = c.turns-turn-items.ensures.value in
    let gap : c.if-is_empty.push_str.now ≡ gap_before c.loop-turn.text.bytes = elim c.if-is_empty.branch [
      | then-is_empty w ↦ ap (λ s. s.now) w.push_str-is ∙ sym (ap (λ b. cond b [] (32 ∷ [])) (sym c.is_empty.ensures ∙ w.if-is_empty.true))
      | else-is_empty w ↦ ap (λ s. s.now) w.push_str-is ∙ sym (ap (λ b. cond b [] (32 ∷ [])) (sym c.is_empty.ensures ∙ w.if-is_empty.false))
    ] in
    print-more c.args.scramble.now c.loop-turn.turn-index (Face 0 0 0) c.loop-turn.text.bytes c.push_str-in-loop-turn.new.self.bytes c.event-event.ensures.valid
    (omega (arith, ap length e)) (c.loop-turn.invariant ∙ ap (λ x. text_of (take c.loop-turn.turn-index x)) e)
    (rw (c.push_str-in-loop-turn.ensures.bytes, c.push_str.ensures.bytes, c.as_str.ensures.value, c.spelled.ensures, e, gap) (with_gap _ _))
    ∙ ap (λ x. text_of (take (c.loop-turn.turn-index + 1) x)) (sym e)
