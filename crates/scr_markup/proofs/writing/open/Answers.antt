use Rattle.std.proofs.Common.{rules, append_assoc}
use Rattle.scr_markup.specs.Tokens.{Open}
use Rattle.scr_markup.specs.Given.{attributes_of}
use Rattle.scr_markup.proofs.AddsLemmas.{adds_token}
use Rattle.scr_markup.proofs.writing.open.Goals as goal

pub returns-clause-adds : goal.returns-clause-adds
returns-clause-adds c =
    adds_token _ _ (Open c.args.name.now (attributes_of c.args.attributes.now)) c.requires (search (rules, append_assoc))
