-- The lemmas that the proofs of the code cite, by function.
use Rattle.scr_combinatorics.proofs.PlayLaws.{count_in-append}
use Rattle.scr_sq1solve.proofs.Lengths.{IsTidy-sq1, length-tidy, twists-tidy}
use Rattle.scr_sq1solve.proofs.MinimaLaws.{needs_test-iff}
use Rattle.std.proofs.lemmas.Bool.{false≢true}

pub ruleset exact_draw = (needs_test-iff)

pub ruleset joined = (count_in-append, twists-tidy, length-tidy, IsTidy-sq1)

pub ruleset walked = (false≢true)
