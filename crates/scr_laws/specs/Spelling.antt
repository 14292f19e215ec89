-- How options are written as words, which is what the grammar reads, and all that it reads.
use Rattle.std.specs.Prelude.{◌≡◌, ◌++◌, false, List, [], ◌∷◌, Option, Some, None, codes, option_and_then}
use Rattle.scr_options.specs.OptionWords.{Form, Text, Values, begins_with_hyphen, flag, give, options_of, spelled_form, valued}

-- an option as it is written: a flag; or with its value, in one word with an `=` between them, or as two words
pub data Written : Type 0 where
  Flagged : (name : Text) → Written
  Joined : (name value : Text) → Written
  Apart : (name value : Text) → Written

abbrev pub name_of : Written → Text
name_of (Flagged name) = name
name_of (Joined name value) = name
name_of (Apart name value) = name

abbrev pub value_of : Written → Text
value_of (Flagged name) = codes "true"
value_of (Joined name value) = value
value_of (Apart name value) = value

abbrev pub words_of : Written → List Text
words_of (Flagged name) = (codes "--" ++ name) ∷ []
words_of (Joined name value) = (codes "--" ++ name ++ 61 ∷ value) ∷ []
words_of (Apart name value) = (codes "--" ++ name) ∷ value ∷ []

-- it is one of these options, the first of its name, which has no `=`
abbrev pub IsOption : List Form → Form → Type 0
IsOption forms form = spelled_form forms (codes "--" ++ form.name) ≡ Some form

-- options that there are; a value that is a word of its own doesn't begin with a hyphen
abbrev pub IsWritten : List Form → Written → Type 0
IsWritten forms (Flagged name) = IsOption forms (flag name)
IsWritten forms (Joined name value) = IsOption forms (valued name)
IsWritten forms (Apart name value) = IsOption forms (valued name) × (begins_with_hyphen value ≡ false)

abbrev pub AreWritten : List Form → List Written → Type 0
AreWritten forms [] = Unit {0}
AreWritten forms (w ∷ rest) = IsWritten forms w × AreWritten forms rest

abbrev pub written_words : List Written → List Text
written_words [] = []
written_words (w ∷ rest) = words_of w ++ written_words rest

-- the values after those so far, where each option has none before
abbrev pub written_values : Values → List Written → Option Values
written_values values [] = Some values
written_values values (w ∷ rest) =
    option_and_then (λ more. written_values more rest) (give (name_of w) (value_of w ∷ []) values)

-- words are a way to write options with these values, each once
pub record IsWrittenAs (forms : List Form) (words : List Text) (values : Values) : Type 0 where
  pub written : List Written
  pub are_options : AreWritten forms written
  pub words_are : written_words written ≡ words
  pub values_are : written_values (λ name. None) written ≡ Some values

-- whatever words are a way to write options, they are read as these
abbrev pub ReadsBack : Type 0
ReadsBack = (forms : List Form) (words : List Text) (values : Values)
    → IsWrittenAs forms words values → options_of forms words ≡ Some values

-- and words that are read as options are a way to write them
abbrev pub ReadsNothingElse : Type 0
ReadsNothingElse = (forms : List Form) (words : List Text) (values : Values)
    → options_of forms words ≡ Some values → IsWrittenAs forms words values
