-- What value bytes are.
use Rattle.std.specs.Prelude.{ℕ, ◌≡◌, Some, None, List}
use Rattle.std.specs.Str.{IsUtf8}
use Rattle.json.specs.Json.{Json, document}
use Rattle.json.specs.Strict.{HasUniqueKeys}
use Rattle.scr_wcif.specs.declared.fault.FileFault.{FileFault}
use Rattle.scr_wcif.specs.declared.fault.FileFault.TheVariants as file

-- bytes are the text of a JSON value in which no object has a key twice
pub record IsFile (bytes : List ℕ) (json : Json) : Type 0 where
  pub text : IsUtf8 bytes
  pub is : document bytes ≡ Some json
  pub unique : HasUniqueKeys json

-- why bytes are none
abbrev pub IsNoFile : List ℕ → FileFault → Type 0
IsNoFile bytes (file.NoText place) = ¬ IsUtf8 bytes
IsNoFile bytes (file.NoJson place) = IsUtf8 bytes × (document bytes ≡ None)
IsNoFile bytes file.KeyTwice = (json : Json) × (document bytes ≡ Some json) × (¬ HasUniqueKeys json)
IsNoFile bytes other = ⊥
