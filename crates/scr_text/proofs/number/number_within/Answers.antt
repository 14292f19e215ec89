use Rattle.std.proofs.Common.{◌≡◌, ◌-◌, ◌^◌, sym, ◌∙◌, arith, rules}
use Rattle.std.specs.Prelude.{option_and_then}
use Rattle.scr_text.specs.Numbers.{in_range}
use Rattle.scr_text.proofs.NumberLaws.{number_between-narrowed}
use Rattle.scr_text.proofs.number.number_within.Goals as goal

pub returns-clause-exact : goal.returns-clause-exact
returns-clause-exact c =
    let same : c.filter.result ≡ option_and_then (in_range c.args.least c.args.greatest) c.number.result = search rules in
    same ∙ sym (number_between-narrowed c.args.least c.args.greatest (2 ^ 32 - 1) c.args.text.now c.number.result (omega arith) c.number.ensures)
