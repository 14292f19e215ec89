use Rattle.std.proofs.Common.{◌<◌, IsTrue, length, arith, ap, subst}
use Rattle.scr_notation.specs.declared.event.Event.{Event}
use Rattle.scr_notation.specs.Turns.{permits}
use Rattle.scr_notation.proofs.ReadLaws.{read-short, place-short, read-as, on_true}
use Rattle.scr_notation.proofs.reading.read_next.Goals as goal

pub overflow_cast-result : goal.overflow_cast-result
overflow_cast-result c =
    let l = read-short c.event-event.result c.in-Some.turn c.args.word.now c.in-Some.ensures.found.0 c.in-Some.ensures.found.1 in
    omega (arith, l)

pub overflow_add-result : goal.overflow_add-result
overflow_add-result c =
    let l = read-short c.event-event.result c.in-Some.turn c.args.word.now c.in-Some.ensures.found.0 c.in-Some.ensures.found.1 in
    let p = place-short c.args.scramble.now c.args.place c.event-event.ensures.valid c.requires in
    omega (arith, l, p)

pub overflow_add-result-2 : goal.overflow_add-result-2
overflow_add-result-2 c =
    let l = read-short c.event-event.result c.in-Some.turn c.args.word.now c.in-Some.ensures.found.0 c.in-Some.ensures.found.1 in
    let p = place-short c.args.scramble.now c.args.place c.event-event.ensures.valid c.requires in
    omega (arith, l, p)

pub returns-clause-read : goal.returns-clause-read
returns-clause-read c =
    let Q : Event → Type 0 = λ e. IsTrue (permits e c.in-Some.turn) in
    let permitted = subst Q c.event-event.ensures.value c.in-Some.ensures.found.0 in
    let room : length c.args.scramble.now.turns < 160 =
    omega (arith, ap length c.turns.ensures.value, c.if-turns-eq-MOST_TURNS.false, c.turns.ensures.valid.room) in
    let pushed = on_true c.push.result _ (c.push.ensures.exact.1 (room, permitted)) c.push.ensures.pushed in
    read-as c.args.scramble.now c.push.new.self c.args.word.now c.in-Some.turn c.args.place c.in-Some.ensures.found.1 pushed c.push.ensures.valid c.requires
