use Rattle.std.proofs.Common.{rules, append_assoc}
use Rattle.scr_markup.specs.Tokens.{Close}
use Rattle.scr_markup.proofs.AddsLemmas.{adds_token}
use Rattle.scr_markup.proofs.writing.close.Goals as goal

pub returns-clause-adds : goal.returns-clause-adds
returns-clause-adds c =
    adds_token _ _ (Close c.args.name.now) c.requires (search (rules, append_assoc))
