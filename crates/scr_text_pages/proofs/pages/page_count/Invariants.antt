use Rattle.std.proofs.Common.{◌≤◌, ◌-◌}
use Rattle.scr_text_pages.proofs.pages.page_count.Given as goal

abbrev pub invariant-pages : goal.invariant-pages
invariant-pages l = record { within : l.from ≤ l.slots; counted : l.count ≤ l.from }

abbrev pub decreases-pages : goal.decreases-pages
decreases-pages l = l.slots - l.from
