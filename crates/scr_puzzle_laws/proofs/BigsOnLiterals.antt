-- What to unfold to compute the turns of a Megaminx and their text.
use Rattle.std.specs.Prelude.{⊤}
use Rattle.scr_notation.specs.Spelling.{spelling}
use Rattle.scr_bigs.specs.Megaminx.{bits_of, row_turns, rows_turns, megaminx_moves}

unfoldable pub megaminx_on_literals : ⊤
unfolding spelling bits_of row_turns rows_turns megaminx_moves
megaminx_on_literals = tt
