use Rattle.std.proofs.Common.{refl}
use Rattle.scr_html.proofs.TextLemmas.{spelling_one_line}
use Rattle.scr_html.proofs.words.write_word.Goals as goal

pub leaf-requires : goal.leaf-requires
leaf-requires c = (
  record { named = refl; valid = (record { key = refl; value = refl }, (record { key = refl; value = rw c.as_str.ensures.value c.left_of-left.ensures }, tt)) },
  rw (c.as_str-2.ensures.value, c.print-text.ensures, c.push_turn.ensures.value, c.new-one.ensures.value) (spelling_one_line c.args.turn),
)
