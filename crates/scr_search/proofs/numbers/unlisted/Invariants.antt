use Rattle.std.proofs.Common.{◌≡◌, vec_len}
use Rattle.scr_search.proofs.numbers.unlisted.Given as goal

abbrev pub invariant-loop-block : goal.invariant-loop-block
invariant-loop-block l = vec_len l.all ≡ l._block
