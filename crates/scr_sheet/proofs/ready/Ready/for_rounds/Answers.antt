use Rattle.std.proofs.Common.{inl, inr, refl, sym, subst}
use Rattle.std.proofs.lemmas.Result.{err_from_is_err_and}
use Rattle.scr_slots.specs.Tables.{IsBuildCause}
use Rattle.scr_sheet.proofs.RoomLaws.{taken-for}
use Rattle.scr_sheet.proofs.FairParts.{events_of_parts, each_asked, parts_of_rounds-fair}
use Rattle.scr_sheet.proofs.ready.Ready.for_rounds.Goals as goal

pub returns-clause-ready : goal.returns-clause-ready
returns-clause-ready g c = record {
  tables = each_asked c.in_ok-tables.tables c.args.rounds.now c.in_ok-tables.ensures.events;
  room = taken-for c.args.rounds.now _ _ c.in_ok-room.room refl c.in_ok-room.ensures.slots c.most_slots.ensures c.in_ok-room.ensures.room;
}

pub returns-clause-fair : goal.returns-clause-fair
returns-clause-fair g c =
    parts_of_rounds-fair c.in_ok-tables.tables c.args.rounds.now c.in_ok-tables.ensures.fair c.requires.rounds.each c.in_ok-tables.ensures.events

pub returns-in_err-tables-clause-cause : goal.returns-in_err-tables-clause-cause
returns-in_err-tables-clause-cause g c =
    let p = err_from_is_err_and c.from_residual.result c.from_residual.ensures.1 in
    let why = c.in_err-tables.field-0.0 in
    rw (p.1, p.2) (inl (subst (λ events. IsBuildCause events why) (sym (events_of_parts 0 c.args.rounds.now)) c.in_err-tables.ensures.cause))

pub returns-in_err-room-clause-cause : goal.returns-in_err-room-clause-cause
returns-in_err-room-clause-cause g c =
    let p = err_from_is_err_and c.from_residual-in_err-room.result c.from_residual-in_err-room.ensures.1 in
    rw p.1 (inr p.2)
