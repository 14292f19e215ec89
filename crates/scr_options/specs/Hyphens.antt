-- The words on which the grammar and the parser differ: the parser takes a lone hyphen as a value,
-- and two as the end of the options.
use Rattle.std.specs.Prelude.{◌||◌, ◌≡◌, Bool, true, false, [], ◌∷◌, codes}
use Rattle.std.specs.Str.{IsUtf8, bytes_eq}
use Rattle.scr_options.specs.OptionWords.{Form, Text}

abbrev pub is_bare : Text → Bool
is_bare word = bytes_eq word (codes "-") || bytes_eq word (codes "--")

-- a word that is left to the parser
abbrev pub IsOrdinary : Text → Type 0
IsOrdinary word = IsUtf8 word × (is_bare word ≡ false)

abbrev pub is_empty : Text → Bool
is_empty [] = true
is_empty (c ∷ rest) = false

-- an option that would be spelled by two hyphens alone
abbrev pub is_nameless : Form → Bool
is_nameless form = is_empty form.name
