use Rattle.std.proofs.Common.{◌≡◌, Some, take}
use Rattle.scr_combinatorics.specs.Play.{play}
use Rattle.scr_picture.specs.Stickers.{stickers_after}
use Rattle.scr_picture.proofs.stickers.played.Given as goal

abbrev pub invariant-loop-turn : goal.invariant-loop-turn
invariant-loop-turn g l = play (stickers_after l.moves) l.fn.solved (take l.turn-index l.turns) ≡ Some l.letters
