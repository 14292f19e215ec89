use Rattle.std.proofs.Common.{◌≡◌, ℕ, ◌-◌, ◌%◌, ◌<◌, get_or, length}
use Rattle.scr_orbit.proofs.placed.Placed.inverse.Given as goal

abbrev pub invariant-loop-place : goal.invariant-loop-place
invariant-loop-place g l = record {
  long_pieces : length l.pieces ≡ g.row.N;
  long_digits : length l.digits ≡ g.row.N;
  pieces : (k : ℕ) → k < l.place → get_or l.pieces (get_or l.self-inside.pieces k 0) 0 ≡ k;
  digits : (k : ℕ) → k < l.place
      → get_or l.digits (get_or l.self-inside.pieces k 0) 0 ≡ (l.modulus - get_or l.self-inside.digits k 0) % l.modulus;
}
