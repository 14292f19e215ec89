use Rattle.scr_sq1far.specs.Found.{FindsMore, level_in}
use Rattle.scr_sq1far.specs.Levels.{AreTurnsListed}
use Rattle.scr_sq1far.proofs.levels.Found.add_turns.Given as goal

abbrev pub invariant-loop-turn : goal.invariant-loop-turn
invariant-loop-turn l = record {
  found : FindsMore l.level l.initial.self l.self;
  turns : AreTurnsListed l.level (level_in l.self) l.state l.turn;
}
