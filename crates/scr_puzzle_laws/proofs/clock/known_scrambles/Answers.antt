use Rattle.std.proofs.Common.{refl}
use Rattle.scr_combinatorics.specs.Play.{play}
use Rattle.scr_notation.specs.Spelling.{hours_text, spelling}
use Rattle.scr_clock.specs.Dials.{gain_at, dials_turned}
use Rattle.scr_clock.specs.Held.{held_after}
use Rattle.scr_clock.specs.Written.{pins_at, written}
use Rattle.scr_puzzle_laws.proofs.clock.known_scrambles.Goals as goal

pub returns : goal.returns
unfolding play hours_text spelling gain_at dials_turned held_after pins_at written
returns c = record {
  random = record { dials_are = refl; number_is = refl; gives = refl; printed = refl };
  solved = record { dials_are = refl; number_is = refl; gives = refl; printed = refl };
  two_pins = record { dials_are = refl; number_is = refl; gives = refl; printed = refl };
  back_alone = record { dials_are = refl; number_is = refl; gives = refl; printed = refl };
}
