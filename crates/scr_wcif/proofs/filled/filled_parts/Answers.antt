use Rattle.std.proofs.Common.{List, subst}
use Rattle.json.specs.Value.{value_view}
use Rattle.scr_wcif.specs.Sets.{EventSets}
use Rattle.scr_wcif.specs.Made.{FillsRounds}
use Rattle.scr_wcif.proofs.FilledLemmas.{parts-filled}
use Rattle.scr_wcif.proofs.filled.filled_parts.Goals as goal

pub returns : goal.returns
returns c =
    let json = value_view c.in_ok-value.value in
    let named = c.in_ok-names_rounds.ensures in
    let P : List EventSets → Type 0 = λ sets. FillsRounds json named.0 sets c.filled_value.result in
    parts-filled c.args.file.now c.args.sheet.now json named.0 c.in_ok-sets.sets.items c.filled_value.result c.in_ok-value.ensures.file named.1
    c.in_ok-sets.ensures.sets (subst P c.deref.ensures.value (c.filled_value.ensures named.0 named.1))
