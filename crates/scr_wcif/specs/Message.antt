-- What goes wrong in a run, and the line that tells it.
use Rattle.std.specs.Prelude.{ℕ, List, ◌++◌, codes}
use Rattle.std.specs.Fmt.{decimal}
use Rattle.scr_read.specs.Causes.{cause_text}
use Rattle.scr_host.specs.Faults.{Telling}
use Rattle.scr_wcif.specs.declared.fault.EventCause.{EventCause}
use Rattle.scr_wcif.specs.declared.fault.EventCause.TheVariants as event
use Rattle.scr_wcif.specs.declared.fault.RoundCause.{RoundCause}
use Rattle.scr_wcif.specs.declared.fault.RoundCause.TheVariants as round
use Rattle.scr_wcif.specs.declared.fault.Difference.{Difference}
use Rattle.scr_wcif.specs.declared.fault.Difference.TheVariants as difference
use Rattle.scr_wcif.specs.declared.fault.FileFault.{FileFault}
use Rattle.scr_wcif.specs.declared.fault.FileFault.TheVariants as file

-- why an entry tells no event, and why one tells no round
abbrev pub event_cause_text : EventCause → List ℕ
event_cause_text event.Many = codes "more than 17 events"
event_cause_text event.Shape = codes "no id and rounds"
event_cause_text event.Unknown = codes "unknown event"
event_cause_text event.Twice = codes "the same event again"
event_cause_text event.Rounds = codes "more than four rounds"

abbrev pub round_cause_text : RoundCause → List ℕ
round_cause_text round.Id = codes "id"
round_cause_text round.Groups = codes "scrambleSetCount"

-- how a round of a sheet differs
abbrev pub difference_text : Difference → List ℕ
difference_text difference.Event = codes "another event"
difference_text difference.Groups = codes "another number of groups"
difference_text difference.Missing = codes "missing"
difference_text difference.More = codes "not in the file"

-- why a file tells no rounds, or doesn't take a sheet's; events, rounds and lines are counted from 1, and bytes from 0
abbrev pub file_text : FileFault → List ℕ
file_text file.NoParts = codes "no line ===== between a file and a sheet"
file_text (file.NoText place) = codes "no UTF-8 at byte " ++ decimal place
file_text (file.NoJson place) = codes "no JSON at byte " ++ decimal place
file_text file.KeyTwice = codes "an object has a key twice"
file_text file.NoCompetition = codes "no competition: no list of events"
file_text (file.Event number cause) = codes "event " ++ decimal number ++ codes ": " ++ event_cause_text cause
file_text (file.Round event number cause) =
    codes "event " ++ decimal event ++ codes " round " ++ decimal number ++ codes ": " ++ round_cause_text cause
file_text (file.SheetLine line why) = codes "sheet line " ++ decimal line ++ codes ": " ++ cause_text why
file_text (file.Sheet number why) = codes "sheet round " ++ decimal number ++ codes ": " ++ difference_text why

-- how the program tells what goes wrong in it, and its exit code for each cause of its own
abbrev pub telling : Telling FileFault
telling = record {
  program = codes "scramble-wcif";
  usage = codes "list | fill";
  text = file_text;
  code = λ why. 3;
}
