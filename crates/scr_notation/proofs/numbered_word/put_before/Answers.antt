use Rattle.std.proofs.Common.{None, Some, [], ◌∷◌, ◌++◌, refl, ap, sym, ◌∙◌}
use Rattle.std.specs.Option.{option_map}
use Rattle.std.proofs.lemmas.Bool.{false≢true}
use Rattle.scr_notation.specs.TurnNumbers.{turn_at}
use Rattle.scr_notation.proofs.TidyingLaws.{no-numbers, before-none, before-alike, before-other, merged-one, merged-gone}
use Rattle.scr_notation.proofs.numbered_word.put_before.Goals as goal

pub returns-in_default-clause-word : goal.returns-in_default-clause-word
returns-in_default-clause-word c =
    before-none c.args.kind c.args.number c.args.last_first.now.items c.push.new.self.items
    (no-numbers c.args.last_first.now.items (λ l. false≢true (c.in_default.ensures.variant.1 l)))
    (c.push.ensures.items ∙ ap (λ x. x.items ++ c.args.number ∷ []) c.in_default.ensures.empty)

pub returns-in-None-clause-word : goal.returns-in-None-clause-word
returns-in-None-clause-word c =
    before-other c.args.kind c.args.number c.in-Some.next c.args.last_first.now.items c.pop.new.self.items c.push-in-None-2.new.self.items
    (sym c.in-None.ensures.alike) c.in-Some.ensures.items
    (c.push-in-None-2.ensures.items
    ∙ ap (λ x. x ++ c.args.number ∷ []) (c.push-in-None.ensures.items ∙ sym c.in-Some.ensures.items))

pub returns-in-Some-Some-clause-word : goal.returns-in-Some-Some-clause-word
returns-in-Some-Some-clause-word c =
    before-alike c.args.kind c.args.number c.in-Some.next (Some c.in-Some-Some.merged) c.args.last_first.now.items c.pop.new.self.items
    c.push-in-Some-Some.new.self.items (sym c.in-Some-Some.ensures.alike)
    (ap (option_map (turn_at c.args.kind)) (sym c.in-Some-Some.field-0-is) ∙ c.in-Some-Some.ensures.merged) c.in-Some.ensures.items
    (merged-one c.args.kind c.in-Some-Some.merged c.pop.new.self.items c.push-in-Some-Some.new.self.items c.push-in-Some-Some.ensures.items)

pub returns-in-Some-None-clause-word : goal.returns-in-Some-None-clause-word
returns-in-Some-None-clause-word c =
    before-alike c.args.kind c.args.number c.in-Some.next None c.args.last_first.now.items c.pop.new.self.items c.pop.new.self.items
    (sym c.in-Some-None.ensures.alike)
    (ap (option_map (turn_at c.args.kind)) (sym c.in-Some-None.field-0-is) ∙ c.in-Some-None.ensures.merged) c.in-Some.ensures.items (merged-gone c.args.kind c.pop.new.self.items c.pop.new.self.items refl)
