use Rattle.std.proofs.Common.{sym, ap, ◌∙◌, arith}
use Rattle.std.proofs.lemmas.List.Elements.{All-more}
use Rattle.scr_notation.specs.Event.{family_of}
use Rattle.scr_list.specs.declared.round.Round.{Round}
use Rattle.scr_slots.specs.Tables.{is_family}
use Rattle.scr_slots.proofs.BuildCauses.{AsksNot, asks_for-none, asks_for-at}
use Rattle.scr_slots.proofs.tables.asks_for.Goals as goal

pub loop-round-preserved : goal.loop-round-preserved
loop-round-preserved c =
    All-more (AsksNot c.args.family) c.args.rounds.now c.loop-round.round-index c.round-item.result c.loop-round-test.true c.loop-round.invariant
    (ap (λ (r : Round). is_family c.args.family (family_of r.event)) (sym (c.round.view_is ∙ c.round-item.is)) ∙ sym c.is_of.ensures ∙ c.if-is_of.false)

pub returns-then-is_of : goal.returns-then-is_of
returns-then-is_of c =
    sym
    (asks_for-at c.args.rounds.now c.args.family c.loop-round.round-index c.round-item.result c.loop-round-test.true
    (ap (λ (r : Round). is_family c.args.family (family_of r.event)) (sym (c.round.view_is ∙ c.round-item.is)) ∙ sym c.is_of.ensures ∙ c.if-is_of.true))

pub returns : goal.returns
returns c = sym (asks_for-none c.args.rounds.now c.args.family c.loop-round.round-index (omega arith) c.loop-round.invariant)
