use Rattle.std.proofs.Common.{◌+◌, sym, subst, arith}
use Rattle.std.proofs.lemmas.List.{with_items_is}
use Rattle.scr_search.specs.Near.{IsNear}
use Rattle.scr_search.specs.Spread.{IsListed}
use Rattle.scr_search.proofs.NearLaws.{IsNear-listed}
use Rattle.scr_search.proofs.numbers.one_turn_more.Goals as goal

pub returns-then-are_all_there-clause-near : goal.returns-then-are_all_there-clause-near
returns-then-are_all_there-clause-near g c = λ most near.
    let v = g.P.Part.views in
    let next = c.run_chunks.new.out in
    subst (λ lists. IsNear v (most + 1) (IsListed lists)) (sym (with_items_is c.in_ok-all.all next (omega arith)))
    (IsNear-listed v g.P.Part.extent c.requires.views most c.args.lists.now next (λ cube seen. omega (arith, c.requires.blocks cube seen))
    c.run_chunks.ensures (c.are_all_there.ensures c.if-are_all_there.true) near)
