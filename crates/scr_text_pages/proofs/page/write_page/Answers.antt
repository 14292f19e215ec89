use Rattle.std.proofs.Common.{string_bytes}
use Rattle.scr_text_pages.specs.Adding.{slots_between}
use Rattle.scr_text_pages.proofs.AddLemmas.{adds-page}
use Rattle.scr_text_pages.proofs.page.write_page.Goals as goal

pub returns : goal.returns
returns c =
    adds-page c.args.competition.now (slots_between c.args.spacing.pictures c.args.from c.args.spacing.end c.args.group.now) (string_bytes c.args.text.now)
    (string_bytes c.write_heads.new.text) (string_bytes c.write_slots.new.text) c.in_ok-write_heads.ensures c.in_ok-write_slots.ensures
