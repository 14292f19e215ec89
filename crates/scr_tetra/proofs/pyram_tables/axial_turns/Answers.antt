use Rattle.std.proofs.Common.{refl}
use Rattle.scr_tetra.specs.declared.pyram_tables.TheConstants.{AXIAL_TABLE}
use Rattle.scr_orbit.specs.InPlace.{AreDigitsInPlace}
use Rattle.scr_orbit.proofs.TableTests.{All-from_test, are_in_place, AreDigitsInPlace-from_test}
use Rattle.scr_tetra.proofs.PyramLiterals.{pyram_on_literals}
use Rattle.scr_tetra.proofs.pyram_tables.axial_turns.Goals as goal

pub returns-clause-defined : goal.returns-clause-defined
unfolding pyram_on_literals
returns-clause-defined c = refl

pub returns-clause-valid : goal.returns-clause-valid
returns-clause-valid c = All-from_test (are_in_place 4 3) (AreDigitsInPlace 4 3) (AreDigitsInPlace-from_test 4 3) AXIAL_TABLE refl
