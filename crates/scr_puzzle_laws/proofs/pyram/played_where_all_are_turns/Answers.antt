use Rattle.std.proofs.Common.{true, false}
use Rattle.scr_orbit.proofs.PlayedTurns.{plays_turns}
use Rattle.scr_notation.specs.declared.event.Event.TheVariants.{Pyram}
use Rattle.scr_notation.specs.Axes.{is_axis_turn}
use Rattle.scr_notation.specs.Turns.{permits}
use Rattle.scr_notation.proofs.TellsPowers.{tells_axes}
use Rattle.scr_tetra.specs.Pyraminx.{pyram_powers, tetraminx_powers}
use Rattle.scr_tetra.proofs.PyramLaws.{lawful_pyram, lawful_tetraminx}
use Rattle.scr_puzzle_laws.proofs.pyram.played_where_all_are_turns.Goals as goal

pub returns : goal.returns
returns c = record {
  pyraminx = plays_turns pyram_powers (permits Pyram) (tells_axes true) lawful_pyram;
  without_tips = plays_turns tetraminx_powers (is_axis_turn false) (tells_axes false) lawful_tetraminx;
}
