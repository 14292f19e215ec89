use Rattle.std.proofs.Common.{string_bytes}
use Rattle.scr_text_pages.proofs.CutLemmas.{bar-line}
use Rattle.scr_text_pages.proofs.nets.write_line.Goals as goal

pub returns : goal.returns
returns c =
    bar-line c.args.line.now (string_bytes c.args.text.now) (string_bytes c.push_str.new.self) (string_bytes c.push_str-2.new.self) (string_bytes c.push_str-3.new.self)
    c.requires c.in_ok-push_str.ensures.bytes c.in_ok-push_str-2.ensures.bytes c.in_ok-push_str-3.ensures.bytes
