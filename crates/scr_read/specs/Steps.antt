-- What the calls of a reader do.
use Rattle.std.specs.Prelude.{◌≡◌, ◌+◌, Option, Some, None, Result, Ok, Err, List, [], ◌∷◌}
use Rattle.scr_read.specs.declared.piece.Piece.{Piece}
use Rattle.scr_read.specs.declared.fault.SheetFault.{SheetFault}
use Rattle.scr_read.specs.Reading.{Reading, IsWhole, IsRead, IsAtFault, ReadsPiece}
use Rattle.scr_read.specs.Faults.{IsCause}

-- it read a line; or the sheet ends here, or is at fault in the next line, and the reader is as it was
abbrev pub Reads : Reading → Reading → Result (Option Piece) SheetFault → Type 0
Reads before after (Ok (Some piece)) = ReadsPiece before after piece
Reads before after (Ok None) = IsWhole before.place × (before.rest ≡ []) × (after ≡ before)
Reads before after (Err fault) = IsAtFault before.place before.rest × (fault.line ≡ before.lines + 1)
    × IsCause before.place before.rest fault.cause × (after ≡ before)

-- of these pieces, which were left, it gave the first, and the others are left; or none was, and it told the end
abbrev pub Gives : List Piece → Reading → Result (Option Piece) SheetFault → Type 0
Gives [] after answer = answer ≡ Ok None
Gives (piece ∷ pieces) after answer = (answer ≡ Ok (Some piece)) × IsRead after.place after.rest pieces
