use Rattle.std.proofs.Common.{◌≡◌, ℕ, ◌<◌, length}
use Rattle.std.specs.Prelude.{slice_index}
use Rattle.scr_combinatorics.specs.Permutations.{parity, permutation_at}
use Rattle.scr_stages.proofs.half_moves.parities.Given as goal

abbrev pub invariant-loop-number : goal.invariant-loop-number
invariant-loop-number l = ((k : ℕ) → k < l.number → slice_index l.odd k ≡ parity (permutation_at 4 k)) × (length l.odd ≡ 24)
