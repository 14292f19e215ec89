use Rattle.std.proofs.Common.{refl}
use Rattle.scr_orbit.proofs.TableTests.{All-orbits}
use Rattle.scr_tetra.specs.declared.skewb_tables.TheConstants.{FOUR_TABLE}
use Rattle.scr_tetra.proofs.SkewbOnLiterals.{skewb_on_literals}
use Rattle.scr_tetra.proofs.skewb_tables.four_turns.Goals as goal

pub returns : goal.returns
unfolding skewb_on_literals
returns c = record { count = refl; defined = refl; valid = All-orbits 4 3 FOUR_TABLE refl }
