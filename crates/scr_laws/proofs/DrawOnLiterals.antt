-- What to unfold to compute attempts on a stream, and what numbers draw.
use Rattle.std.specs.Prelude.{⊤}
use Rattle.scr_laws.proofs.WordsOnLiterals.{stream_on_literals}
use Rattle.scr_draw.specs.Count.{count_below}
use Rattle.scr_draw.specs.Drawn.{drawn}
use Rattle.scr_draw.specs.Fair.{ways}

unfoldable pub draws_on_literals : ⊤
unfolding stream_on_literals count_below drawn ways
draws_on_literals = tt
