use Rattle.std.proofs.Common.{Some, cond, sym, ap, ◌∙◌, subst, arith, rules}
use Rattle.std.specs.Prelude.{nat_eq, not}
use Rattle.std.proofs.lemmas.Bool.{cond-true}
use Rattle.std.specs.HashMap.{get}
use Rattle.scr_sq1far.specs.Found.{level_in}
use Rattle.scr_sq1far.specs.Levels.{AreListed, key_of}
use Rattle.scr_sq1far.proofs.LevelLaws.{HasLevel-listed, AreListed-added, of_on_ok}
use Rattle.scr_sq1far.proofs.FoundLaws.{FindsMore-none}
use Rattle.scr_sq1far.proofs.levels.Found.add.Goals as goal

pub returns-then-contains_key-clause-added : goal.returns-then-contains_key-clause-added
returns-then-contains_key-clause-added c =
    HasLevel-listed c.args.level (level_in c.args.self.now) c.args.self.now.states.items (key_of c.args.state.now) c.key_of-key.result
    c.requires.listed c.key_of-key.ensures.key (sym c.contains_key.ensures ∙ c.if-contains_key.true)

pub returns-then-contains_key-clause-found : goal.returns-then-contains_key-clause-found
returns-then-contains_key-clause-found c = FindsMore-none c.args.level c.args.self.now c.requires.listed

pub returns-clause-found : goal.returns-clause-found
returns-clause-found c =
    let updates = of_on_ok c.insert.result (sym c.is_err.ensures.value ∙ c.if-is_err.false) c.insert.ensures.updates in
    let items = c.push.ensures.items ∙ cond-true _ _ _ (c.is_err-2.ensures.negation ∙ ap not c.if-is_err-2.false) in
    record {
      listed = subst (AreListed c.args.level (get nat_eq c.insert.new.self)) (sym items)
          (AreListed-added c.args.level (level_in c.args.self.now) (get nat_eq c.insert.new.self) c.args.self.now.states.items c.args.state.now
          c.requires.listed c.key_of-key.ensures.valid c.requires.near
          (λ key. updates.0 key
          ∙ ap (λ k. cond (nat_eq k key) (Some c.args.level) (level_in c.args.self.now key)) c.key_of-key.ensures.key));
      grows = search rules;
    }

pub returns-clause-added : goal.returns-clause-added
returns-clause-added c =
    let updates = of_on_ok c.insert.result (sym c.is_err.ensures.value ∙ c.if-is_err.false) c.insert.ensures.updates in
    (c.args.level, omega arith, ap (get nat_eq c.insert.new.self) (sym c.key_of-key.ensures.key) ∙ updates.1)
