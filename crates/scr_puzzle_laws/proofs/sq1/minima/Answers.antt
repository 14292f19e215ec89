use Rattle.std.proofs.Common.{refl}
use Rattle.std.specs.Prelude.{pos}
use Rattle.scr_notation.specs.declared.turn.Turn.TheVariants.{Layers, Twist}
use Rattle.scr_sq1.specs.Units.{solved_sq1, twisted, sq1_after}
use Rattle.scr_puzzle_laws.specs.Sq1Known.{anticlockwise}
use Rattle.scr_puzzle_laws.proofs.Sq1Minima.{count_once, one_needed, one_enough}
use Rattle.scr_puzzle_laws.proofs.sq1.minima.Goals as goal

pub returns : goal.returns
unfolding sq1_after
returns c = record {
  counts = count_once;
  one_needed = one_needed;
  both_layers = λ s. one_enough s (Layers (pos 1) (anticlockwise 1));
  twist = one_enough (twisted solved_sq1) Twist refl;
}
