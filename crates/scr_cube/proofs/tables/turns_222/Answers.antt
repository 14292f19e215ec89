use Rattle.std.proofs.Common.{refl}
use Rattle.scr_orbit.proofs.TableTests.{All-zero_sum}
use Rattle.scr_orbit.proofs.TablesOnLiterals.{turns_on_literals}
use Rattle.scr_cube.specs.declared.tables.TheConstants.{TABLE_222}
use Rattle.scr_cube.proofs.tables.turns_222.Goals as goal

pub returns : goal.returns
unfolding turns_on_literals
returns c = record { count = refl; defined = refl; valid = All-zero_sum 7 3 TABLE_222 refl }
