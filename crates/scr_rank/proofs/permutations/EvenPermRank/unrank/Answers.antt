use Rattle.std.proofs.Common.{ap, ◌∙◌, arith, lit<}
use Rattle.std.proofs.lemmas.List.{length-replicate}
use Rattle.scr_combinatorics.specs.Permutations.{half_at}
use Rattle.scr_combinatorics.proofs.Numberings.{only_one}
use Rattle.scr_combinatorics.proofs.Halves.{halves_one_to_one}
use Rattle.scr_rank.proofs.permutations.EvenPermRank.unrank.Goals as goal

pub returns-clause-list : goal.returns-clause-list
returns-clause-list g c = c.unrank_with_parity.ensures.list ∙ ap (λ n. half_at n 0 c.args.number) (length-replicate g.row.N 0)

pub returns-clause-inverse : goal.returns-clause-inverse
returns-clause-inverse g c value valid even number =
    only_one (halves_one_to_one g.row.N 0 (omega (arith, c.requires.size.0)) (lit< tt)) c.args.number c.unrank_with_parity.new.out value
    (returns-clause-list g c) (valid, even) number
