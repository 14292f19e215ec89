use Rattle.std.proofs.Common.{◌≡◌, ◌+◌, ◌++◌, Some, length, take}
use Rattle.scr_combinatorics.specs.Play.{play}
use Rattle.scr_combinatorics.specs.Stages.{spelled}
use Rattle.scr_notation.specs.declared.event.Event.TheVariants.{C333}
use Rattle.scr_cube.specs.ListedTurns.{letter_in, after_of}
use Rattle.scr_stages.proofs.solving.follow.Given as goal

abbrev pub invariant-loop-at : goal.invariant-loop-at
invariant-loop-at l = record {
  played : play (after_of l.turns) l.cube (take l.at l.word) ≡ Some l.state;
  written : l.solution ≡ record { event = C333; turns = l.fn.solution.turns ++ spelled (letter_in l.turns) (take l.at l.word) };
  longer : length l.solution.turns ≡ length l.fn.solution.turns + l.at;
}
