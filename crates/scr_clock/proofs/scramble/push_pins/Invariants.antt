use Rattle.std.proofs.Common.{◌≡◌, take}
use Rattle.scr_clock.specs.Written.{pins_at}
use Rattle.scr_clock.proofs.ScrambleLaws.{With}
use Rattle.scr_clock.proofs.scramble.push_pins.Given as goal

abbrev pub invariant-loop-k : goal.invariant-loop-k
invariant-loop-k l = l.scramble ≡ With l.fn.scramble (take l.k (pins_at l.sets l.amounts))
