use Rattle.std.proofs.Common.{◌≡◌, ℕ, ◌<◌, Some}
use Rattle.std.specs.Prelude.{slice_get}
use Rattle.scr_notation.specs.Event.{events}
use Rattle.scr_read.specs.Heads.{HeadOf}
use Rattle.scr_read.specs.Reading.{IsHeading}
use Rattle.scr_read.proofs.head.read_head.Given as goal

abbrev pub invariant-loop-number : goal.invariant-loop-number
invariant-loop-number l = (k : ℕ) → k < l.number → (head : HeadOf) → slice_get events k ≡ Some head.event
    → IsHeading l.index l.line head → ⊥
