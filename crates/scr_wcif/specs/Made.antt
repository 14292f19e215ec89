-- What was made of an input: a list, or a file with the scrambles of a sheet.
use Rattle.std.specs.Prelude.{ℕ, ◌≡◌, List, Result, Err, string_bytes}
use Rattle.json.specs.Json.{Json}
use Rattle.scr_host.specs.declared.fault.Fault.{Fault}
use Rattle.scr_wcif.specs.declared.fault.FileFault.{FileFault}
use Rattle.scr_wcif.specs.declared.made.Made.{Made}
use Rattle.scr_wcif.specs.FileRound.{NamedRound}
use Rattle.scr_wcif.specs.Adding.{IsAnswer}
use Rattle.scr_wcif.specs.Reading.{IsFile}
use Rattle.scr_wcif.specs.Sets.{EventSets}
use Rattle.scr_wcif.specs.Placing.{placed_rounds}
use Rattle.scr_wcif.specs.Filled.{IsFilledWith, IsFilled, ComesToFilled, PartsFail, ComesToNone}
use Rattle.scr_wcif.specs.Outcome.{ComesToList, NamesNone}

-- A text was made, and what is told with it, for which this holds, or there is a fault of the file for which that does; or
-- memory was wanting.
abbrev pub Makes : (List ℕ → List ℕ → Type 0) → (FileFault → Type 0) → Result Made (Fault FileFault) → Type 0
Makes Comes Fails = IsAnswer (λ made. Comes made.text.items (string_bytes made.told)) Fails

-- the list of the rounds that the bytes of a file name
abbrev pub ListsFile : List ℕ → Result Made (Fault FileFault) → Type 0
ListsFile bytes = Makes (ComesToList bytes) (NamesNone bytes)

-- a file was filled with these sets, whose rounds are those that it names
abbrev pub FillsRounds : Json → List NamedRound → List EventSets → Result Made (Fault FileFault) → Type 0
FillsRounds json named sets = Makes (IsFilledWith json named sets) (λ why. placed_rounds named sets ≡ Err why)

-- with those of a sheet
abbrev pub FillsParts : List ℕ → List ℕ → Result Made (Fault FileFault) → Type 0
FillsParts file sheet = Makes (λ text told. (json : Json) × IsFile file json × IsFilled json sheet text told) (PartsFail file sheet)

-- the same of an input that has both
abbrev pub FillsInput : List ℕ → Result Made (Fault FileFault) → Type 0
FillsInput input = Makes (ComesToFilled input) (ComesToNone input)
