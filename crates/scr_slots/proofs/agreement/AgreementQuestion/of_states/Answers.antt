use Rattle.scr_slots.proofs.Listings.{by-numbering}
use Rattle.scr_slots.proofs.JudgedLaws.{judged-read, judged-unread}
use Rattle.scr_slots.proofs.agreement.AgreementQuestion.of_states.Goals as goal

pub returns-in-Some : goal.returns-in-Some
returns-in-Some g c =
    let numbering = c.count-numbering.ensures.numbering in
    let slot = c.args.self.now in
    judged-read g.E.StateEvent.event _ _ g.E.StateEvent.played slot.settings slot.least slot.stream slot.text.now numbering.some c.in-Ok.state
    (by-numbering numbering (rw (c.new-words.ensures.words, c.new-words.ensures.none_taken) at c.in-Ok.ensures.draws))
    c.in-Some.scramble (rw c.requires.notation at c.in-Some.ensures) c.leads_to.result c.leads_to.ensures

pub returns-in_default : goal.returns-in_default
returns-in_default g c =
    by-numbering c.count-numbering.ensures.numbering (rw (c.new-words.ensures.words, c.new-words.ensures.none_taken) at c.in_default.ensures.draws)

pub returns : goal.returns
returns g c =
    let numbering = c.count-numbering.ensures.numbering in
    let slot = c.args.self.now in
    judged-unread g.E.StateEvent.event _ _ g.E.StateEvent.played slot.settings slot.least slot.stream slot.text.now numbering.some c.in-Ok.state
    (by-numbering numbering (rw (c.new-words.ensures.words, c.new-words.ensures.none_taken) at c.in-Ok.ensures.draws))
    (rw c.requires.notation at c.in-None.ensures)
