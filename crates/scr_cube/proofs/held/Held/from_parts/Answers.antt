use Rattle.std.proofs.Common.{[], get_or, refl, sym, ◌∙◌, subst, arith}
use Rattle.std.specs.Prelude.{Contains}
use Rattle.std.proofs.lemmas.Bool.{false≢true}
use Rattle.std.proofs.lemmas.Slice.Eq.{bytes_eq-Decides}
use Rattle.scr_cube.specs.declared.held.TheConstants.{HOLDS}
use Rattle.scr_cube.specs.Held.{holds}
use Rattle.scr_cube.proofs.Holds.{Contains-hold, HasNumber-hold, hold_centres-are}
use Rattle.scr_cube.proofs.held.Held.from_parts.Goals as goal

pub invariant_of-result : goal.invariant_of-result
invariant_of-result c =
    let there = c.if-contains.ensures.cases in
    let same = (bytes_eq-Decides (get_or HOLDS there.0 []) c.args.centres).0 (there.2 []) in
    subst (Contains holds) (hold_centres-are there.0 there.1 ∙ same) (Contains-hold there.0 there.1)

pub returns-then-contains-clause-valid : goal.returns-then-contains-clause-valid
returns-then-contains-clause-valid c = (λ some. invariant_of-result c, λ there. refl)

pub returns-else-contains-clause-valid : goal.returns-else-contains-clause-valid
returns-else-contains-clause-valid c = (
  λ some. absurd (false≢true some),
  λ there.
      let n = HasNumber-hold c.args.centres there in
      let same = (bytes_eq-Decides (get_or HOLDS n.number []) c.args.centres).1 (sym (hold_centres-are n.number n.below) ∙ n.is) in
      sym (c.if-contains.ensures.cases n.number [] (omega arith) n.below) ∙ same,
)
