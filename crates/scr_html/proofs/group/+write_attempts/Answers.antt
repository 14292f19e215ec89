use Rattle.scr_layout.specs.Texts.{labels_of}
use Rattle.scr_html.specs.Pages.{attempt_marks}
use Rattle.scr_html.proofs.PartLemmas.{slots_first}
use Rattle.scr_markup.proofs.AddsLemmas.{adds_then, adds_as}
use Rattle.scr_html.proofs.group.+write_attempts.Goals as goal

pub returns-in_ok-write_attempts-in-len1-up : goal.returns-in_ok-write_attempts-in-len1-up
returns-in_ok-write_attempts-in-len1-up t c =
    adds_as _ _ _ _
    (slots_first (attempt_marks c.args.look.now.pictures c.args.look.now.competition.now c.args.group.now) (labels_of c.args.group.now.event) c.args.place c.label_of-label.result.now c.args.scrambles.now c.scramble-item.result
    c.label_of-label.ensures.label c.in-len1-up.len_at_least c.scramble-item.is)
    (adds_then _ _ _ _ _ c.in_ok-write_attempt-in-len1-up.ensures c.in_ok-write_attempts-in-len1-up.ensures)
