use Rattle.std.proofs.Common.{lit≤}
use Rattle.scr_combinatorics.proofs.PlayedWhere.{played-iff}
use Rattle.scr_orbit.proofs.PlayedTurns.{plays_turns}
use Rattle.scr_notation.specs.declared.event.Event.TheVariants.{C222, C333}
use Rattle.scr_notation.specs.Turns.{permits}
use Rattle.scr_notation.proofs.TellsPowers.{tells_faces}
use Rattle.scr_cube.specs.Cube222.{powers_222}
use Rattle.scr_cube.specs.Cube333.{cube_powers}
use Rattle.scr_cube.proofs.HeldReach.{TellsTurns-held}
use Rattle.scr_cube.proofs.Laws222.{lawful_222}
use Rattle.scr_cube.proofs.Laws333.{lawful_cube}
use Rattle.scr_puzzle_laws.proofs.cube.played_where_all_are_turns.Goals as goal

pub returns : goal.returns
returns c = record {
  cube = plays_turns cube_powers (permits C333) (tells_faces 1 (lit≤ tt)) lawful_cube;
  corners = plays_turns powers_222 (permits C222) (tells_faces 0 (lit≤ tt)) lawful_222;
  held = played-iff TellsTurns-held;
}
