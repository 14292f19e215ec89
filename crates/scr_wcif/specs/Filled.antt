-- What comes of filling a sheet into a file.
use Rattle.std.specs.Prelude.{ℕ, ◌≡◌, ◌⊎◌, Some, List, Ok, Err}
use Rattle.std.specs.Str.{IsUtf8}
use Rattle.json.specs.Json.{Json, document}
use Rattle.scr_wcif.specs.declared.fault.FileFault.{FileFault}
use Rattle.scr_wcif.specs.declared.fault.FileFault.TheVariants.{NoParts}
use Rattle.scr_wcif.specs.FileRound.{NamedRound}
use Rattle.scr_wcif.specs.FileRounds.{rounds_of_file}
use Rattle.scr_wcif.specs.Listed.{left_out_text}
use Rattle.scr_wcif.specs.Reading.{IsFile, IsNoFile}
use Rattle.scr_wcif.specs.Parts.{AreParts, HasNoParts}
use Rattle.scr_wcif.specs.Sets.{EventSets, RoundSets}
use Rattle.scr_wcif.specs.Taking.{IsSheetOf, IsNoSheet}
use Rattle.scr_wcif.specs.Placing.{placed_rounds}
use Rattle.scr_wcif.specs.Filling.{filled}

-- A text reads as a file's value with these sets in the rounds that the file names, one for one. With it goes what is
-- told of those of its rounds that get none.
pub record IsFilledWith (json : Json) (named : List NamedRound) (sets : List EventSets) (text told : List ℕ) : Type 0 where
  pub placed : List RoundSets
  pub places : placed_rounds named sets ≡ Ok placed
  pub utf8 : IsUtf8 text
  pub reads : document text ≡ Some (filled placed json)
  pub told_is : told ≡ left_out_text named

-- it does so with the sets of a sheet
pub record IsFilled (json : Json) (sheet text told : List ℕ) : Type 0 where
  pub named : List NamedRound
  pub sets : List EventSets
  pub names : rounds_of_file json ≡ Ok named
  pub is_sheet : IsSheetOf sheet sets
  pub filled : IsFilledWith json named sets text told

-- a sheet isn't one of these rounds of a file: it is none, or one of others
abbrev pub SheetIsRefused : List NamedRound → List ℕ → FileFault → Type 0
SheetIsRefused named sheet why =
    IsNoSheet sheet why ⊎ ((sets : List EventSets) × IsSheetOf sheet sets × (placed_rounds named sets ≡ Err why))

-- Why a file isn't filled: it names no rounds; or it does, and the sheet is refused.
abbrev pub IsUnfilled : Json → List ℕ → FileFault → Type 0
IsUnfilled json sheet why =
    (rounds_of_file json ≡ Err why)
    ⊎ ((named : List NamedRound) × (rounds_of_file json ≡ Ok named) × SheetIsRefused named sheet why)

-- an input is a file and behind it a sheet, and they come to this text
pub record ComesToFilled (input text told : List ℕ) : Type 0 where
  pub file : List ℕ
  pub sheet : List ℕ
  pub json : Json
  pub parts : AreParts input file sheet
  pub is_file : IsFile file json
  pub filled : IsFilled json sheet text told

-- Why none comes of two parts: the first is no file, or it isn't filled.
abbrev pub PartsFail : List ℕ → List ℕ → FileFault → Type 0
PartsFail file sheet why = IsNoFile file why ⊎ ((json : Json) × IsFile file json × IsUnfilled json sheet why)

-- why none comes of an input: it has no two parts, or it has, and none comes of them
abbrev pub ComesToNone : List ℕ → FileFault → Type 0
ComesToNone input why =
    ((why ≡ NoParts) × HasNoParts input)
    ⊎ ((file : List ℕ) × (sheet : List ℕ) × AreParts input file sheet × PartsFail file sheet why)
