use Rattle.std.proofs.Common.{◌<◌, IsTrue, length, subst, sym}
use Rattle.scr_notation.specs.Turns.{permits}
use Rattle.scr_notation.specs.Written.{Written}
use Rattle.scr_notation.proofs.WrittenLaws.{IsWritten-push}
use Rattle.scr_notation.proofs.scramble.push_turn.Goals as goal

pub invariant_of-scramble : goal.invariant_of-scramble
invariant_of-scramble c =
    let room = subst (λ (s : Written). length s.turns < 160) (sym c.scramble.view_is) c.requires.room in
    let permitted = subst (λ (s : Written). IsTrue (permits s.event c.args.turn)) (sym c.scramble.view_is) c.requires.of_event in
    IsWritten-push _ _ _ _ c.scramble.invariant room permitted c.push.ensures.items

pub returns-clause-valid : goal.returns-clause-valid
returns-clause-valid c = invariant_of-scramble c
