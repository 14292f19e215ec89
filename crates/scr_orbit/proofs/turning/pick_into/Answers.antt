use Rattle.std.proofs.Common.{arith}
use Rattle.scr_orbit.proofs.Places.{pick_by_places}
use Rattle.scr_orbit.proofs.turning.pick_into.Goals as goal

pub bounds-list-from : goal.bounds-list-from
bounds-list-from c = grind arith

pub returns : goal.returns
returns c = grind (arith, pick_by_places)
