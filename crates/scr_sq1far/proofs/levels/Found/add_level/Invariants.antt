use Rattle.std.proofs.Common.{ℕ, ◌+◌, ◌<◌, get_or}
use Rattle.scr_sq1.specs.Units.{solved_sq1}
use Rattle.scr_sq1far.specs.Found.{FindsMore, level_in}
use Rattle.scr_sq1far.specs.Levels.{AreTurnsListed}
use Rattle.scr_sq1far.proofs.levels.Found.add_level.Given as goal

abbrev pub invariant-loop-place : goal.invariant-loop-place
invariant-loop-place l = record {
  found : FindsMore (l.level + 1) l.initial.self l.self;
  each : (k : ℕ) → k < l.place
      → AreTurnsListed (l.level + 1) (level_in l.self) (get_or l.initial.self.states.items k solved_sq1) 144;
}
