use Rattle.scr_markup.proofs.PlainLemmas.{HasNoLineFeed-append}
use Rattle.scr_html.proofs.sizes.push_text.Goals as goal

pub returns-clause-line : goal.returns-clause-line
returns-clause-line c = rw c.push_str.ensures.bytes (HasNoLineFeed-append c.args.text.now.bytes c.args.more.now c.requires.line c.requires.more)
