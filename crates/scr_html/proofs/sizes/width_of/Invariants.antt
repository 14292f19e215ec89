use Rattle.std.proofs.Common.{◌≤◌}
use Rattle.scr_html.proofs.sizes.width_of.Given as goal

abbrev pub invariant-loop-turn : goal.invariant-loop-turn
invariant-loop-turn l = l.most ≤ 300
