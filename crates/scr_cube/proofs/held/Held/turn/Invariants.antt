use Rattle.std.proofs.Common.{◌≡◌}
use Rattle.scr_cube.specs.Held.{whole_turned}
use Rattle.scr_cube.proofs.held.Held.turn.Given as goal

abbrev pub invariant-loop-quarter : goal.invariant-loop-quarter
invariant-loop-quarter l = l.centres ≡ whole_turned l.place l.self-inside.centres l._quarter
