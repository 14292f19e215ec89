use Rattle.std.proofs.Common.{◌≡◌, ◌+◌, drop}
use Rattle.scr_combinatorics.specs.Permutations.{place_of}
use Rattle.scr_sq1tables.proofs.pieces.place_of.Given as goal

abbrev pub invariant-loop-place : goal.invariant-loop-place
invariant-loop-place l = place_of l.number l.list ≡ l.place + place_of l.number (drop l.place l.list)
