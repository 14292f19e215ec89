use Rattle.std.proofs.Common.{arith}
use Rattle.scr_markup.proofs.AddsLemmas.{adds_then}
use Rattle.scr_markup.proofs.PlainLemmas.{HasNoLineFeed-decimal}
use Rattle.scr_html.proofs.group.write_numbers.Goals as goal

pub plain-requires-clause-text : goal.plain-requires-clause-text
plain-requires-clause-text c =
    rw (c.as_str.ensures.value, c.decimal-text.ensures.bytes) (HasNoLineFeed-decimal _ (omega (arith, c.loop-number-test)))

pub loop-number-preserved : goal.loop-number-preserved
loop-number-preserved c = adds_then _ _ _ _ _ c.loop-number.invariant c.in_ok-plain.ensures
