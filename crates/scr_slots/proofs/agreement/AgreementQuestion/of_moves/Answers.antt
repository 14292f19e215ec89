use Rattle.std.proofs.Common.{◌≡◌, Some, rules, sym, subst}
use Rattle.std.specs.Str.{bytes_eq}
use Rattle.scr_notation.specs.Spelling.{text_of}
use Rattle.scr_slots.specs.Agreement.{IsJudged}
use Rattle.scr_slots.specs.Promised.{Moves}
use Rattle.scr_slots.specs.Slots.{ByMoves}
use Rattle.scr_slots.proofs.JudgedLaws.{judged-moves}
use Rattle.scr_slots.proofs.agreement.AgreementQuestion.of_moves.Goals as goal

pub returns-in-Some : goal.returns-in-Some
returns-in-Some g c =
    let slot = c.args.self.now in
    let event = g.M.MoveEvent.event c.args.moves.now in
    let random = g.M.MoveEvent.random c.args.moves.now in
    let has = c.in-Some.ensures slot.least in
    let told : c.eq.result ≡ bytes_eq (text_of c.in-Some.scramble.turns) slot.text.now = search rules in
    subst (λ b. IsJudged {promised = Moves random} (ByMoves event) slot.settings slot.least slot.stream slot.text.now (Some b)) (sym told)
    (judged-moves event random slot.settings slot.least slot.stream slot.text.now c.in-Some.scramble has.written has)
