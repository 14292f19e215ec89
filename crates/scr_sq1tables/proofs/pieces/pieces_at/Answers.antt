use Rattle.std.proofs.Common.{◌%◌, sym, ap, ◌∙◌, subst, arith}
use Rattle.scr_combinatorics.specs.Permutations.{IsPermutation, permutation_at}
use Rattle.scr_sq1tables.proofs.Codes.{codes_one_to_one, larger-lt, turned-lt, pieces-are}
use Rattle.scr_sq1tables.proofs.pieces.pieces_at.Goals as goal

pub overflow_add-pieces : goal.overflow_add-pieces
overflow_add-pieces c = omega (arith, turned-lt (c.args.code % 16) c.from-pair.result, larger-lt c.loop-place.place c.loop-place-test.true)

pub returns-clause-list : goal.returns-clause-list
returns-clause-list c =
    pieces-are c.args.code c.unrank-standing.result c.loop-place.pieces (c.unrank-standing.ensures.list ∙ ap (permutation_at 4) c.from.ensures)
    c.loop-place.invariant.size (λ k lt. c.loop-place.invariant.filled k (omega (arith, lt, c.loop-place-test.false)))

pub returns-clause-valid : goal.returns-clause-valid
returns-clause-valid c = subst (IsPermutation 8) (sym (returns-clause-list c)) (codes_one_to_one.valid c.args.code c.requires).permutation
