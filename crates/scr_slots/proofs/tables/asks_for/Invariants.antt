use Rattle.std.proofs.Common.{take}
use Rattle.std.specs.Prelude.{All}
use Rattle.scr_slots.proofs.BuildCauses.{AsksNot}
use Rattle.scr_slots.proofs.tables.asks_for.Given as goal

abbrev pub invariant-loop-round : goal.invariant-loop-round
invariant-loop-round l = All (AsksNot l.family) (take l.round-index l.rounds)
