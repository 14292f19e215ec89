use Rattle.std.proofs.Common.{string_bytes}
use Rattle.scr_text_pages.proofs.CutLemmas.{dashes-one, dashes-more}
use Rattle.scr_text_pages.proofs.cutting.write_dashes.Goals as goal

pub loop-place-init : goal.loop-place-init
loop-place-init c = dashes-one (string_bytes c.args.text.now) (string_bytes c.push_str.new.self) c.in_ok-push_str.ensures.bytes

pub loop-place-preserved : goal.loop-place-preserved
loop-place-preserved c =
    dashes-more (string_bytes c.args.text.now) (string_bytes c.loop-place.text) _ c.dash.result.now c.loop-place.invariant c.dash.ensures
    c.in_ok-push_str-2.ensures.bytes
