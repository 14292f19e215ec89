use Rattle.std.proofs.Common.{sym, subst}
use Rattle.std.specs.Prelude.{All}
use Rattle.scr_sq1tables.specs.Letters.{letter_of}
use Rattle.scr_sq1tables.specs.Placed.{KeepsMates}
use Rattle.scr_sq1tables.specs.declared.letter_places.Part.TheVariants.{Corners, Edges}
use Rattle.scr_sq1tables.proofs.PairingStage.{All-kept}
use Rattle.scr_sq1tables.proofs.code_moves.CodeMoves.build.Goals as goal

pub new-requires : goal.new-requires
new-requires c = subst (All KeepsMates) (sym c.letter_places-corner_places.ensures) (All-kept (letter_of c.args.letters) c.requires Corners)

pub new-requires-2 : goal.new-requires-2
new-requires-2 c = subst (All KeepsMates) (sym c.letter_places-edge_places.ensures) (All-kept (letter_of c.args.letters) c.requires Edges)
