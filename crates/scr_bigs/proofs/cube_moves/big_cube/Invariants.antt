use Rattle.std.proofs.Common.{◌≡◌, ◌+◌, ◌*◌, ◌≤◌, length}
use Rattle.scr_bigs.specs.BigCubes.{cube_event}
use Rattle.scr_bigs.proofs.MoveLaws.{AreMade}
use Rattle.scr_bigs.proofs.cube_moves.big_cube.Given as goal

abbrev pub invariant-loop-made : goal.invariant-loop-made
invariant-loop-made g l = record {
  made : AreMade g.row.SIDE l.attempts (g.W.Words.word_at l.initial.words) (g.W.Words.taken l.initial.words)
      (g.W.Words.word_at l.words) l.left_out.first l.left_out.count (g.W.Words.taken l.words) l.made l.scramble.turns;
  event : l.scramble.event ≡ cube_event g.row.SIDE;
  count : length l.scramble.turns ≡ l.made;
  room : g.W.Words.taken l.words ≤ g.W.Words.taken l.initial.words + 3000000 * l.made;
}
