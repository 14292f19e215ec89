use Rattle.scr_markup.proofs.AddsLemmas.{adds_then}
use Rattle.scr_html.proofs.head.write_rules.Goals as goal

pub loop-rule-preserved : goal.loop-rule-preserved
loop-rule-preserved c = adds_then _ _ _ _ _ c.loop-rule.invariant c.in_ok-plain.ensures
