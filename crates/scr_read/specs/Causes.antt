-- What messages say of a line of a sheet that is at fault.
use Rattle.std.specs.Prelude.{ℕ, List, codes}
use Rattle.scr_read.specs.declared.fault.SheetCause.{SheetCause}
use Rattle.scr_read.specs.declared.fault.SheetCause.TheVariants as cause

-- why a text is no sheet
abbrev pub cause_text : SheetCause → List ℕ
cause_text cause.End = codes "the sheet ends within a round"
cause_text cause.LineFeed = codes "no line feed ends the last line"
cause_text cause.Head = codes "no head of the next round"
cause_text cause.Group = codes "no name of the next group"
cause_text cause.Label = codes "not the label of the next scramble"
cause_text cause.Scramble = codes "no scramble of the event"
cause_text cause.GroupEnd = codes "no empty line behind the group"
