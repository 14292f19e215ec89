use Rattle.std.proofs.Common.{refl}
use Rattle.scr_html.proofs.TextLemmas.{above_controls}
use Rattle.scr_html.proofs.heads.write_competition.Goals as goal

pub leaf-requires : goal.leaf-requires
leaf-requires c = (record { named = refl; valid = (record { key = refl; value = refl }, (record { key = refl; value = refl }, tt)) }, above_controls _ c.requires)
