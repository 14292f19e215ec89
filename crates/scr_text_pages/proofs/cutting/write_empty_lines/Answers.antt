use Rattle.std.proofs.Common.{[], string_bytes}
use Rattle.scr_text_pages.proofs.AddLemmas.{adds-none, adds-words, adds-empty}
use Rattle.scr_text_pages.proofs.cutting.write_empty_lines.Goals as goal

pub loop-line-init : goal.loop-line-init
loop-line-init c = adds-none (string_bytes c.args.text.now)

pub loop-line-preserved : goal.loop-line-preserved
loop-line-preserved c =
    adds-words [] [] (string_bytes c.args.text.now) (string_bytes c.loop-line.text) (string_bytes c.push_str.new.self) c.loop-line.invariant
    (adds-empty (string_bytes c.loop-line.text) (string_bytes c.push_str.new.self) c.in_ok-push_str.ensures.bytes)
