use Rattle.std.proofs.Common.{refl}
use Rattle.scr_orbit.proofs.TableTests.{All-zero_sum}
use Rattle.scr_orbit.proofs.TablesOnLiterals.{turns_on_literals}
use Rattle.scr_cube.specs.Cube333.{solved_cube}
use Rattle.scr_cube.specs.declared.tables.TheConstants.{EDGE_TABLE}
use Rattle.scr_cube.proofs.tables.edge_turns.Goals as goal

pub returns : goal.returns
unfolding turns_on_literals solved_cube
returns c = record { count = refl; defined = refl; valid = All-zero_sum 12 2 EDGE_TABLE refl }
