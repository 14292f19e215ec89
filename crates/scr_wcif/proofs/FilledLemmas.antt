-- A file that is filled, part by part.
use Rattle.std.proofs.Common.{◌≡◌, ℕ, List, Result, Ok, Err, inr}
use Rattle.json.specs.Json.{Json}
use Rattle.scr_wcif.specs.declared.fault.FileFault.{FileFault}
use Rattle.scr_host.specs.declared.fault.Fault.{Fault}
use Rattle.scr_wcif.specs.declared.made.Made.{Made}
use Rattle.scr_wcif.specs.FileRound.{NamedRound}
use Rattle.scr_wcif.specs.FileRounds.{rounds_of_file}
use Rattle.scr_wcif.specs.Reading.{IsFile}
use Rattle.scr_wcif.specs.Sets.{EventSets}
use Rattle.scr_wcif.specs.Taking.{IsSheetOf}
use Rattle.scr_wcif.specs.Made.{FillsRounds, FillsParts}
use Rattle.scr_wcif.proofs.StepLemmas.{for-own}

-- with the sets of a sheet's rounds
pub parts-filled : (file sheet : List ℕ) (json : Json) (named : List NamedRound) (sets : List EventSets) (result : Result Made (Fault FileFault)) →
    IsFile file json → rounds_of_file json ≡ Ok named → IsSheetOf sheet sets → FillsRounds json named sets result → FillsParts file sheet result
parts-filled file sheet json named sets (Ok made) is names is_sheet it = (
  json,
  is,
  record { named = named; sets = sets; names = names; is_sheet = is_sheet; filled = it },
)
parts-filled file sheet json named sets (Err why) is names is_sheet it =
    for-own (λ cause it. inr (json, is, inr (named, names, inr (sets, is_sheet, it)))) why it
