use Rattle.std.proofs.Common.{arith}
use Rattle.scr_list.specs.Versions.{version_of}
use Rattle.scr_list.proofs.version.version_of.Goals as goal

pub returns-then-begins_with_version_line : goal.returns-then-begins_with_version_line
unfolding version_of
returns-then-begins_with_version_line c = grind arith

pub returns-else-begins_with_version_line : goal.returns-else-begins_with_version_line
unfolding version_of
returns-else-begins_with_version_line c = grind arith
