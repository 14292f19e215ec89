use Rattle.std.proofs.Common.{ap, ◌∙◌}
use Rattle.scr_read.specs.Reading.{Reading, pieces_of}
use Rattle.scr_read.proofs.LeftLemmas.{all_left, all_given}
use Rattle.scr_read.proofs.pieces.SheetPieces.of.Goals as goal

pub invariant_of-result : goal.invariant_of-result
invariant_of-result c = (all_left c.args.text.now c.new.result c.new.ensures c.requires.sheet.0 c.requires.sheet.1, tt)

pub returns : goal.returns
returns c = λ rounds is.
    ap (λ p. record { pieces = p; lines = c.new.result.lines }) (all_given c.args.text.now c.new.result c.result-1.given.0 c.new.ensures rounds is)
    ∙ ap (λ (r : Reading). record { pieces = pieces_of rounds; lines = r.lines }) c.new.ensures
