use Rattle.scr_sq1far.specs.Found.{AreFound, level_in}
use Rattle.scr_sq1far.specs.Levels.{AreLevels}
use Rattle.scr_sq1far.proofs.levels.Levels.build.Given as goal

abbrev pub invariant-loop-level : goal.invariant-loop-level
invariant-loop-level l = record {
  listed : AreFound l.level l.found;
  exact : AreLevels l.level (level_in l.found);
}
