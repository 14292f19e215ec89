-- What goes wrong in a run, and the line that tells it.
use Rattle.std.specs.Prelude.{ℕ, List, ◌++◌, codes}
use Rattle.std.specs.Fmt.{decimal}
use Rattle.scr_words.specs.declared.seed.SeedFault.{SeedFault}
use Rattle.scr_words.specs.declared.seed.SeedFault.TheVariants.{Length, Digit}
use Rattle.scr_list.specs.declared.fault.ListCause.{ListCause}
use Rattle.scr_list.specs.declared.fault.ListCause.TheVariants as cause
use Rattle.scr_list.specs.declared.fault.ListFault.{ListFault}
use Rattle.scr_list.specs.declared.fault.ListFault.TheVariants as list
use Rattle.scr_command.specs.declared.command.UsageFault.{UsageFault}
use Rattle.scr_command.specs.declared.command.UsageFault.TheVariants.{No444, NoSeed, Grammar}
use Rattle.scr_table.specs.Names.{name_text}
use Rattle.scr_fault.specs.declared.fault.Fault.{Fault}
use Rattle.scr_fault.specs.declared.fault.Fault.TheVariants as fault

-- why a text is no seed
abbrev pub seed_fault_text : SeedFault → List ℕ
seed_fault_text (Length got) = codes "seed has " ++ decimal got ++ codes " characters, not 64"
seed_fault_text (Digit place) = codes "seed has no hexadecimal digit at " ++ decimal place

-- why words were refused
abbrev pub usage_text : UsageFault → List ℕ
usage_text No444 = codes "444 is not supported"
usage_text (NoSeed fault) = seed_fault_text fault
usage_text Grammar =
    codes "usage: one EVENT SEED | sheet --seed HEX [--workers N] [--tries N] [--attempts N] [--short N] | tables EVENT | load NUMBER | net EVENT SEED | check --seed HEX [--attempts N]"

-- why a line was refused
abbrev pub cause_text : ListCause → List ℕ
cause_text cause.Words = codes "words"
cause_text cause.No444 = codes "444 is not supported"
cause_text cause.Event = codes "unknown event"
cause_text cause.Groups = codes "groups"
cause_text cause.Minimum = codes "minimum"
cause_text cause.Name = codes "name"
cause_text cause.Rounds = codes "too many rounds"

-- why a list was refused; lines are counted from 1
abbrev pub list_text : ListFault → List ℕ
list_text list.Read = codes "input could not be read"
list_text (list.TooLong limit) = codes "list is longer than " ++ decimal limit ++ codes " bytes"
list_text (list.Line number cause) = codes "line " ++ decimal number ++ codes ": " ++ cause_text cause

-- what went wrong; rounds and slots are counted from 1
abbrev pub fault_text : Fault → List ℕ
fault_text (fault.Usage usage) = usage_text usage
fault_text (fault.List list) = list_text list
fault_text (fault.DrawLimit missing) =
    codes "round " ++ decimal missing.round ++ codes " slot " ++ decimal missing.slot ++ codes ": no permitted state in "
    ++ decimal missing.words ++ codes " words"
fault_text fault.Write = codes "output could not be written"
fault_text fault.NoMemory = codes "out of memory"
fault_text (fault.Gap table index) = codes "table " ++ name_text table ++ codes " has a gap at " ++ decimal index
fault_text (fault.Differs line) = codes "line " ++ decimal line ++ codes " differs"

-- the line that the program writes for it
abbrev pub message_of : Fault → List ℕ
message_of fault = codes "scramble: " ++ fault_text fault ++ codes "\n"
