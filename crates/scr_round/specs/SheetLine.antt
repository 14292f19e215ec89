-- A line of a round as code holds it.
use Rattle.scr_round.specs.declared.layout.SheetLine.{SheetLine}
use Rattle.scr_round.specs.declared.layout.SheetLine.TheVariants as code
use Rattle.scr_round.specs.Round.{Line, Fixed, Slot}

-- the line that it is
abbrev pub line_of : SheetLine → Line
line_of (code.Fixed text) = Fixed text.bytes
line_of (code.Slot label slot) = Slot label.bytes slot
