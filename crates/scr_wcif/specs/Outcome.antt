-- How a run may end.
use Rattle.std.specs.Prelude.{ℕ, ◌≡◌, ◌⊎◌, if◌then◌else◌, Option, Some, None, List, [], ◌∷◌, codes, Result, Ok, Err}
use Rattle.std.specs.Str.{bytes_eq}
use Rattle.json.specs.Json.{Json}
use Rattle.scr_outside.specs.Change.{Change, IsUnchanged, Gains, Falters}
use Rattle.scr_host.specs.declared.fault.Fault.{Fault}
use Rattle.scr_host.specs.declared.fault.Fault.TheVariants as fault
use Rattle.scr_host.specs.Input.{EndsReading}
use Rattle.scr_wcif.specs.declared.fault.FileFault.{FileFault}
use Rattle.scr_wcif.specs.declared.command.Command.{Command}
use Rattle.scr_wcif.specs.declared.command.Command.TheVariants as command
use Rattle.scr_wcif.specs.FileRound.{NamedRound}
use Rattle.scr_wcif.specs.FileRounds.{rounds_of_file}
use Rattle.scr_wcif.specs.Listed.{IsListOf, left_out_text}
use Rattle.scr_wcif.specs.Reading.{IsFile, IsNoFile}
use Rattle.scr_wcif.specs.Filled.{ComesToFilled, ComesToNone}

-- ---- what words ask for

abbrev pub command_of : List (List ℕ) → Option Command
command_of (word ∷ []) =
    if bytes_eq word (codes "list") then Some command.List else if bytes_eq word (codes "fill") then Some command.Fill else None
command_of words = None

-- ---- a list

-- bytes are a file that names these rounds
pub record NamesRounds (bytes : List ℕ) (named : List NamedRound) : Type 0 where
  pub json : Json
  pub file : IsFile bytes json
  pub names : rounds_of_file json ≡ Ok named

-- They are none: no file, or one that names no rounds.
abbrev pub NamesNone : List ℕ → FileFault → Type 0
NamesNone bytes why = IsNoFile bytes why ⊎ ((json : Json) × IsFile bytes json × (rounds_of_file json ≡ Err why))

-- Bytes come to this list, and to what is told of the rounds that it leaves out.
pub record ComesToList (bytes list told : List ℕ) : Type 0 where
  pub named : List NamedRound
  pub names : NamesRounds bytes named
  pub list_is : IsListOf named list
  pub told_is : told ≡ left_out_text named

-- ---- what is written

-- a command makes this text of an input, and what is told with it: of a file its list, and of a file and a sheet the file
-- with the sheet's scrambles
abbrev pub ComesTo : Command → List ℕ → List ℕ → List ℕ → Type 0
ComesTo command.List = ComesToList
ComesTo command.Fill = ComesToFilled

-- why it makes none
abbrev pub ComesToNothing : Command → List ℕ → FileFault → Type 0
ComesToNothing command.List = NamesNone
ComesToNothing command.Fill = ComesToNone

-- What is written of an input that was read: the text that it comes to, or a first part of it where the output failed;
-- else nothing, for a cause. What is given is what is told.
abbrev pub Writes : Command → List ℕ → Change → Result (List ℕ) (Fault FileFault) → Type 0
Writes command input out (Ok told) = (text : List ℕ) × ComesTo command input text told × Gains out text
Writes command input out (Err fault.Write) = (text : List ℕ) × (told : List ℕ) × ComesTo command input text told × Falters out text
Writes command input out (Err (fault.Own why)) = ComesToNothing command input why × IsUnchanged out
Writes command input out (Err fault.NoMemory) = IsUnchanged out
Writes command input out (Err other) = ⊥

-- ---- a whole run

-- how a run ends that was asked for this; words that are no command read and write nothing
abbrev pub EndsAsked : Option Command → Change → Change → Result (List ℕ) (Fault FileFault) → Type 0
EndsAsked (Some command) source out ended = EndsReading (Writes command) source out ended
EndsAsked None source out ended = IsUnchanged source × IsUnchanged out × (ended ≡ Err fault.Usage)

-- how a run ends on these words
abbrev pub Ends : List (List ℕ) → Change → Change → Result (List ℕ) (Fault FileFault) → Type 0
Ends words = EndsAsked (command_of words)
