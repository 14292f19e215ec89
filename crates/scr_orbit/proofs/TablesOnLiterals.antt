-- What to unfold to compute all turns of a puzzle whose states are orbits.
use Rattle.std.specs.Prelude.{⊤}
use Rattle.scr_orbit.specs.Monoids.{power, all_powers}
use Rattle.scr_orbit.specs.Orbits.{turned_orbit, solved_orbit, added_digits}
use Rattle.scr_orbit.specs.PowerPuzzles.{all_turns}

unfoldable pub turns_on_literals : ⊤
unfolding all_turns all_powers power turned_orbit solved_orbit added_digits
turns_on_literals = tt
