use Rattle.std.proofs.Common.{◌≡◌, map, take}
use Rattle.json.specs.Value.{value_view}
use Rattle.scr_wcif.specs.Filling.{set_of}
use Rattle.scr_wcif.proofs.set_value.sets_of.Given as goal

abbrev pub invariant-loop-set : goal.invariant-loop-set
invariant-loop-set l = map value_view l.values.items ≡ map set_of (take l.set-index l.sets)
