use Rattle.std.proofs.Common.{refl}
use Rattle.scr_orbit.proofs.TableTests.{All-orbits}
use Rattle.scr_tetra.specs.declared.skewb_tables.TheConstants.{THREE_TABLE}
use Rattle.scr_tetra.proofs.SkewbOnLiterals.{skewb_on_literals}
use Rattle.scr_tetra.proofs.skewb_tables.three_turns.Goals as goal

pub returns : goal.returns
unfolding skewb_on_literals
returns c = record { count = refl; defined = refl; valid = All-orbits 3 3 THREE_TABLE refl }
