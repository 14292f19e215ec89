use Rattle.std.proofs.Common.{ℕ, ◌<◌, get_or}
use Rattle.scr_search.proofs.numbers.enter_all.Given as goal

abbrev pub invariant-loop-number : goal.invariant-loop-number
invariant-loop-number g l =
    let Has = g.N.Numbers.Has in
    (k : ℕ) → k < l.number-index → Has l.into (get_or l.numbers k 0)
