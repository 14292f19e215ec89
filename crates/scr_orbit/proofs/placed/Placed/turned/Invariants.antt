use Rattle.std.proofs.Common.{◌≡◌, ℕ, ◌+◌, ◌%◌, ◌<◌, get_or, length}
use Rattle.scr_orbit.proofs.placed.Placed.turned.Given as goal

abbrev pub invariant-loop-place : goal.invariant-loop-place
invariant-loop-place g l = record {
  long_pieces : length l.pieces ≡ g.row.N;
  long_digits : length l.digits ≡ g.row.N;
  pieces : (k : ℕ) → k < l.place → get_or l.pieces k 0 ≡ get_or l.self-inside.pieces (get_or l.turn.places k 0) 0;
  digits : (k : ℕ) → k < l.place
      → get_or l.digits k 0 ≡ (get_or l.self-inside.digits (get_or l.turn.places k 0) 0 + get_or l.turn.added k 0) % l.modulus;
}
