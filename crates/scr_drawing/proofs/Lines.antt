-- Texts in one line.
use Rattle.scr_markup.proofs.PlainLemmas.{HasNoLineFeed-append}

pub ruleset lines = HasNoLineFeed-append
