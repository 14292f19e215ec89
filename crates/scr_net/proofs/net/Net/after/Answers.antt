-- A turn of layers at a face is one by the kind of its event, of which there are five whatever the events.
use Rattle.std.proofs.Common.{IsTrue, rules, arith, subst}
use Rattle.scr_notation.specs.declared.turn.Turn.{Turn}
use Rattle.scr_notation.specs.Event.{kind_of}
use Rattle.scr_notation.specs.Turns.{permits}
use Rattle.scr_net.proofs.LayerTurns.{face_turn}
use Rattle.scr_net.proofs.net.Net.after.Goals as goal

pub turn-requires : goal.turn-requires
turn-requires g c =
    let event = c.requires.permitted.0 in
    let P : Turn → Type 0 = λ t. IsTrue (permits event t) in
    let is = face_turn (kind_of event) c.in-Face.face c.in-Face.depth c.in-Face.amount (subst P c.in-Face.is c.requires.permitted.1) in
    let parts = is.2 in
    let shallow = c.if-from.true in
    let depth = c.from.ensures in
    let some = parts.some_quarter in
    let few = parts.no_whole in
    (search rules, (c.requires.side, (parts.face_below, (parts.some_layer, (omega (arith, shallow, depth), (omega (arith, some), omega (arith, few)))))))
