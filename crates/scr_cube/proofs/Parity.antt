-- The parity of a list, as a test tells it.
use Rattle.std.proofs.Common.{◌≡◌, ℕ, Bool, IsTrue, cond, List, arith}
use Rattle.std.specs.Prelude.{◌↔◌}
use Rattle.scr_combinatorics.specs.Permutations.{parity}

pub parity_by : (odd : Bool) (xs : List ℕ) → (IsTrue odd ↔ (parity xs ≡ 1)) → cond odd 1 0 ≡ parity xs
parity_by odd xs h0 = grind arith
