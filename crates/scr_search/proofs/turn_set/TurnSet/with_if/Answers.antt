use Rattle.std.proofs.Common.{◌*◌, ◌%◌, ◌^◌}
use Rattle.std.proofs.lemmas.Nat.{or_lt}
use Rattle.scr_search.proofs.BitSets.{has_turn-with, power_below}
use Rattle.scr_search.proofs.turn_set.TurnSet.with_if.Goals as goal

pub returns-then-add-clause-turns : goal.returns-then-add-clause-turns
returns-then-add-clause-turns c = λ t. rw c.if-add.true (has_turn-with c.args.self.bits c.args.turn t c.requires.turn)

pub returns-then-add-clause-few : goal.returns-then-add-clause-few
returns-then-add-clause-few c =
    or_lt 18 c.args.self.bits (1 * 2 ^ c.args.turn % 2 ^ 32) c.requires.few (power_below c.args.turn c.requires.turn)
