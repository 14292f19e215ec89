use Rattle.std.proofs.Common.{◌<◌, ◌-◌, ◌/◌, ◌^◌, ◌%◌, length, ap, ◌∙◌, arith, rules}
use Rattle.std.proofs.lemmas.List.{length-set}
use Rattle.scr_combinatorics.proofs.Numberings.{only_one}
use Rattle.scr_combinatorics.proofs.Twists.{IsTwists-twists_at, twists_number-at, twists_number-twists_at, twists_one_to_one}
use Rattle.scr_rank.proofs.DigitSteps.{written_more, written_end, summed_more, ended}
use Rattle.scr_rank.proofs.digits.TwistRank.unrank.Goals as goal

pub loop-place-preserved : goal.loop-place-preserved
loop-place-preserved g c =
    let l = c.loop-place in
    let last = g.row.N - 1 in
    let room : l.place < length l.out = omega (arith, l.invariant.size, c.loop-place-test.true) in
    record {
      size = length-set _ _ _ ∙ l.invariant.size;
      written = written_more g.row.BASE last l.place l.rest l.sum l.out c.loop-place-test.true room ∙ l.invariant.written;
      summed = summed_more g.row.BASE last l.place l.rest l.sum l.out c.loop-place-test.true room l.invariant.summed;
    }

pub returns-clause-list : goal.returns-clause-list
returns-clause-list g c = grind (arith, ended, written_end)

pub returns-clause-valid : goal.returns-clause-valid
returns-clause-valid g c = search (arith, rules, returns-clause-list, IsTwists-twists_at)

pub returns-clause-number : goal.returns-clause-number
returns-clause-number g c = grind (arith, returns-clause-list, twists_number-twists_at)

pub returns-clause-place_has_digit : goal.returns-clause-place_has_digit
returns-clause-place_has_digit g c k lt =
    twists_number-at g.row.N g.row.BASE _ (returns-clause-valid g c) k lt
    ∙ ap (λ n. n / g.row.BASE ^ k % g.row.BASE) (returns-clause-number g c)

pub returns-clause-inverse : goal.returns-clause-inverse
returns-clause-inverse g c value valid number =
    only_one (twists_one_to_one g.row.N g.row.BASE c.requires.size.0 c.requires.base.0) c.args.number _ value
    (returns-clause-list g c) valid number
