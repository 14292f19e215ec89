use Rattle.std.proofs.Common.{◌≡◌, ℕ, suc, ◌-◌, Bool, not, List, ap, sym, ◌∙◌, arith}
use Rattle.scr_clock.specs.Least.{turns_lead, needs_test_clock}
use Rattle.scr_clock.proofs.LeastLaws.{needs_test-iff}
use Rattle.scr_clock.proofs.least.needs_at_least.Goals as goal

some : (b : Bool) (dials : List ℕ) (least : ℕ) → least ≡ suc (least - 1) → b ≡ turns_lead (least - 1) dials
    → needs_test_clock dials least ≡ not b
unfolding needs_test_clock
some b dials least e h = ap (needs_test_clock dials) e ∙ ap not (sym h)

pub returns-else-least-eq0-clause-exact : goal.returns-else-least-eq0-clause-exact
returns-else-least-eq0-clause-exact c =
    rw (some c.turns_lead.result c.args.clock.now c.args.least (omega arith) c.turns_lead.ensures.value)
    at (needs_test-iff c.args.clock.now c.args.least c.turns_lead.ensures.valid)
