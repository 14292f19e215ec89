use Rattle.std.proofs.Common.{refl}
use Rattle.scr_orbit.proofs.TableTests.{All-zero_sum}
use Rattle.scr_tetra.specs.declared.pyram_tables.TheConstants.{EDGE_TABLE}
use Rattle.scr_tetra.proofs.PyramLiterals.{pyram_on_literals}
use Rattle.scr_tetra.proofs.pyram_tables.edge_turns.Goals as goal

pub returns : goal.returns
unfolding pyram_on_literals
returns c = record { count = refl; defined = refl; valid = All-zero_sum 6 2 EDGE_TABLE refl }
