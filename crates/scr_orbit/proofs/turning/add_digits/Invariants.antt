use Rattle.std.proofs.Common.{◌≡◌, ℕ, ◌+◌, ◌%◌, ◌<◌, ◌≤◌, get_or}
use Rattle.scr_orbit.proofs.turning.add_digits.Given as goal

abbrev pub invariant-loop-place : goal.invariant-loop-place
invariant-loop-place l = record {
  turned : (k : ℕ) → k < l.place → get_or l.digits k 0 ≡ (get_or l.initial.digits k 0 + get_or l.added k 0) % l.modulus;
  left : (k : ℕ) → l.place ≤ k → get_or l.digits k 0 ≡ get_or l.initial.digits k 0;
}
