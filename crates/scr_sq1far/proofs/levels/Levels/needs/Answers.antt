use Rattle.std.proofs.Common.{Some, IsTrue, sym, ap, ◌∙◌, ◌≡◌, subst}
use Rattle.std.specs.Prelude.{nat_eq, ◌↔◌}
use Rattle.std.specs.HashMap.{get}
use Rattle.scr_combinatorics.specs.Reach.{Needs}
use Rattle.scr_sq1.specs.Units.{sq1_puzzle}
use Rattle.scr_sq1far.specs.Levels.{is_at_least, key_of}
use Rattle.scr_sq1far.proofs.levels.Levels.needs.Goals as goal

pub returns-in-Some-clause-exact : goal.returns-in-Some-clause-exact
returns-in-Some-clause-exact c =
    let s = c.args.state.now in
    let level : get nat_eq c.args.self.now.levels (key_of s) ≡ Some c.from.result =
    ap (get nat_eq c.args.self.now.levels) (sym c.key_of.ensures.key) ∙ sym c.in-Some.ensures.value ∙ ap Some (sym c.from.ensures) in
    subst (λ o. IsTrue (is_at_least c.args.least o) ↔ Needs sq1_puzzle s c.args.least) level
    (c.args.self.now.exact s c.args.least c.key_of.ensures.valid c.requires)
