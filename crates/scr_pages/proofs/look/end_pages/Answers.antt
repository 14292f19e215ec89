use Rattle.std.proofs.Common.{string_bytes}
use Rattle.scr_pages.specs.Writing.{look_of}
use Rattle.scr_pages.proofs.PageLemmas.{ends-html, ends-text}
use Rattle.scr_pages.proofs.look.end_pages.Goals as goal

pub returns-in_ok-write_tail : goal.returns-in_ok-write_tail
returns-in_ok-write_tail c =
    ends-html (look_of c.args.look.now) (string_bytes c.args.page.now) (string_bytes c.write_tail.new.page)
    c.if-look.true c.requires c.in_ok-write_tail.ensures

pub returns-else-look : goal.returns-else-look
returns-else-look c = ends-text (look_of c.args.look.now) (string_bytes c.args.page.now) c.if-look.false c.requires
