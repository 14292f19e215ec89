use Rattle.std.proofs.Common.{arith, sym, ◌∙◌, below_more}
use Rattle.std.proofs.lemmas.Bool.{false≢true, eq-eqb, eqb-true}
use Rattle.scr_combinatorics.proofs.PermutationLaws.{IsPermutation-from_each}
use Rattle.scr_orbit.proofs.Places.{occurrences-contained, contained-occurs}
use Rattle.scr_orbit.proofs.validity.is_permutation.Goals as goal

pub returns-then-not-contains : goal.returns-then-not-contains
returns-then-not-contains c = (
  λ h. absurd (false≢true h),
  λ h.
      let n = c.loop-number.number in
      let there = contained-occurs c.args.list.now n (omega (arith, h.once n c.loop-number-test.true)) in
      absurd (false≢true (sym (c.if-not-contains.ensures.cases there.0 n (omega arith) there.1) ∙ eq-eqb _ n there.2)),
)

pub loop-number-preserved : goal.loop-number-preserved
loop-number-preserved c = grind (arith, below_more, occurrences-contained, eqb-true)

pub returns : goal.returns
returns c = grind (arith, IsPermutation-from_each)
