use Rattle.std.proofs.Common.{ℕ, ◌<◌, List}
use Rattle.scr_read.specs.Reading.{IsHeading}
use Rattle.scr_read.proofs.head.read_head_of.Given as goal

abbrev pub invariant-loop-least : goal.invariant-loop-least
invariant-loop-least l = (k : ℕ) → k < l.least → (name : List ℕ)
    → IsHeading l.index l.line (record { event = l.event; least = k; name = name }) → ⊥
