use Rattle.std.proofs.Common.{◌≡◌, length}
use Rattle.std.specs.Prelude.{All}
use Rattle.scr_pages_tests.proofs.html.scrambles.Given as goal

abbrev pub invariant-loop-slot : goal.invariant-loop-slot
invariant-loop-slot l = All (λ scramble. scramble.event ≡ l.event) l.made.items × (length l.made.items ≡ l._slot)
