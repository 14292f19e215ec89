use Rattle.std.proofs.Common.{false}
use Rattle.scr_orbit.proofs.PlayedTurns.{plays_turns}
use Rattle.scr_notation.specs.declared.event.Event.TheVariants.{Skewb}
use Rattle.scr_notation.specs.Turns.{permits}
use Rattle.scr_notation.proofs.TellsPowers.{tells_axes}
use Rattle.scr_tetra.specs.Skewb.{skewb_powers}
use Rattle.scr_tetra.proofs.SkewbLaws.{lawful_skewb}
use Rattle.scr_puzzle_laws.proofs.skewb.played_where_all_are_turns.Goals as goal

pub returns : goal.returns
returns c = plays_turns skewb_powers (permits Skewb) (tells_axes false) lawful_skewb
