use Rattle.std.proofs.Common.{subst}
use Rattle.std.specs.Str.{IsUtf8}
use Rattle.scr_notation.proofs.TextLaws.{IsUtf8-text_of}
use Rattle.scr_notation.proofs.reading.parse_bytes.Goals as goal

pub returns-in-Err : goal.returns-in-Err
returns-in-Err c = λ s written of_event is.
    c.in-Err.ensures.cases.0 (subst IsUtf8 is (IsUtf8-text_of s.event s.turns written.permitted))
