-- Options as the words of a command line give them: a grammar of our own, over any list of options. Each word that begins
-- with a hyphen spells an option, and each of the others is the value of the option before it. `Spelling.antt` has what
-- follows of this: how options are written.
use Rattle.std.specs.Prelude.{ℕ, ◌==◌, Bool, true, false, List, [], ◌∷◌, ◌++◌, find, codes}
use Rattle.std.specs.Prelude.{Option, Some, None, if◌then◌else◌, is_some, option_and_then}
use Rattle.std.specs.List.{after_first, before_first, list_any}
use Rattle.std.specs.Str.{bytes_eq}

abbrev pub Text : Type 0
Text = List ℕ

-- an option: its name, and whether it has a value; one that has none is a flag
pub record Form : Type 0 where
  pub name : Text
  pub has_value : Bool

abbrev pub valued : Text → Form
valued name = record { name = name; has_value = true }

abbrev pub flag : Text → Form
flag name = record { name = name; has_value = false }

-- the value that each option was given, by its name; that of a flag that was given is `true`
abbrev pub Values : Type 0
Values = Text → Option Text

-- ---- a word

abbrev pub is_equals : ℕ → Bool
is_equals c = c == 61

abbrev pub begins_with_hyphen : Text → Bool
begins_with_hyphen [] = false
begins_with_hyphen (c ∷ rest) = c == 45

-- the option that a word spells before its first `=`: by two hyphens, and the option's name. There are no short forms, and
-- a part of a name spells none.
abbrev pub spelled_form : List Form → Text → Option Form
spelled_form forms word = find (λ form. bytes_eq (codes "--" ++ form.name) (before_first is_equals word)) forms

-- All that stands as the value of an option, by the word that spells it and the words behind: `true`, if it is a flag;
-- what is behind the first `=` of its word, whatever that is; and the words up to the next that begins with a hyphen.
abbrev pub values_with : Form → Text → List Text → List Text
values_with form word rest =
    (if form.has_value then [] else codes "true" ∷ [])
    ++ (if list_any is_equals word then after_first is_equals word ∷ [] else [])
    ++ before_first begins_with_hyphen rest

-- one more value, of an option that has just one, and had none so far
abbrev pub give : Text → List Text → Values → Option Values
give name (value ∷ []) values =
    if is_some (values name) then None else Some (λ other. if bytes_eq name other then Some value else values other)
give name others values = None

-- ---- words

-- the values that words give after those so far
unfoldable pub options_read : List Form → Values → List Text → Option Values
options_read forms values [] = Some values
options_read forms values (word ∷ rest) =
    if begins_with_hyphen word
    then option_and_then (λ form.
    option_and_then (λ more. options_read forms more rest) (give form.name (values_with form word rest) values)) (spelled_form forms word)
    else options_read forms values rest

-- The values that words give to these options, in any order, each at most once; none where they aren't in the grammar, as
-- where the first is no option's.
abbrev pub options_of : List Form → List Text → Option Values
options_of forms [] = Some (λ name. None)
options_of forms (word ∷ rest) = if begins_with_hyphen word then options_read forms (λ name. None) (word ∷ rest) else None
