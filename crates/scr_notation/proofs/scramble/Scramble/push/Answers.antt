use Rattle.std.proofs.Common.{◌<◌, IsTrue, length, sym, ap, ◌∙◌, arith}
use Rattle.scr_notation.specs.Turns.{has_turn, permits}
use Rattle.scr_notation.proofs.WrittenLaws.{IsWritten-push}
use Rattle.scr_notation.proofs.scramble.Scramble.push.Goals as goal

pub invariant_of-self : goal.invariant_of-self
invariant_of-self c =
    let room : length c.self.inside.turns.items < 160 = omega arith in
    let permitted : IsTrue (permits c.self.inside.event c.args.turn) =
    sym (c.is_of_kind.ensures ∙ ap (λ kind. has_turn kind c.args.turn) c.row.ensures.kind) ∙ c.if-not-is_of_kind.false in
    IsWritten-push _ _ _ _ c.self.invariant room permitted c.push.ensures.items

pub returns-clause-valid : goal.returns-clause-valid
returns-clause-valid c = invariant_of-self c
