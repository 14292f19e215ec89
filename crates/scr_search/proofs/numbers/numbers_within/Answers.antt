use Rattle.std.proofs.Common.{◌≡◌, subst, arith}
use Rattle.scr_search.specs.Near.{IsNear}
use Rattle.scr_search.specs.Spread.{IsListed}
use Rattle.scr_search.proofs.numbers.numbers_within.Goals as goal

pub returns : goal.returns
returns g c =
    let all : c.loop-turn._turn ≡ c.args.most = omega (arith, c.loop-turn-test.false, c.loop-turn.auto._turn-end) in
    subst (λ n. IsNear g.P.Part.views n (IsListed c.loop-turn.all.items)) all c.loop-turn.invariant.2
