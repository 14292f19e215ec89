use Rattle.std.proofs.Common.{string_bytes}
use Rattle.scr_pages.specs.Writing.{look_of}
use Rattle.scr_pages.proofs.PageLemmas.{begun-html, begun-text}
use Rattle.scr_pages.proofs.look.begin_pages.Goals as goal

pub returns-else-look : goal.returns-else-look
returns-else-look c =
    begun-text c.args.look.now.html (look_of c.args.look.now) (string_bytes c.args.page.now) c.if-look.false c.requires.empty

pub returns-in_ok-write_head : goal.returns-in_ok-write_head
returns-in_ok-write_head c =
    begun-html c.args.look.now.html (look_of c.args.look.now) (string_bytes c.args.page.now) (string_bytes c.write_head.new.page)
    c.if-look.true c.requires.empty c.in_ok-write_head.ensures
