use Rattle.std.proofs.Common.{◌≡◌, ◌≤◌}
use Rattle.scr_twophase.specs.Minima.{astray}
use Rattle.scr_twophase.proofs.needs.pieces_astray.Given as goal

abbrev pub invariant-loop-place : goal.invariant-loop-place
invariant-loop-place l = (l.count ≡ astray l.pieces l.digits l.place) × (l.count ≤ l.place)
