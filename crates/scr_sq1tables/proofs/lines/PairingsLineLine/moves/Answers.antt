use Rattle.std.proofs.Common.{sym, subst}
use Rattle.std.specs.Prelude.{All}
use Rattle.scr_combinatorics.specs.Permutations.{IsPermutation}
use Rattle.scr_sq1tables.specs.declared.letter_places.Part.TheVariants.{Corners, Edges}
use Rattle.scr_sq1tables.proofs.PairingStage.{All-moved}
use Rattle.scr_sq1tables.proofs.lines.PairingsLineLine.moves.Goals as goal

pub new-requires : goal.new-requires
new-requires c = subst (All (IsPermutation 8)) (sym c.letter_places-corners.ensures) (All-moved Corners)

pub new-requires-2 : goal.new-requires-2
new-requires-2 c = subst (All (IsPermutation 8)) (sym c.letter_places-edges.ensures) (All-moved Edges)
