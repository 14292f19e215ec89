-- What words ask for: options in any order, each at most once. Which options there are is our own choice.
use Rattle.std.specs.Prelude.{ℕ, Bool, true, false, if◌then◌else◌, Option, Some, None, option_map, option_and_then, unwrap_or, is_some, List, [], ◌∷◌, codes}
use Rattle.std.specs.Str.{bytes_eq}
use Rattle.scr_text.specs.Numbers.{number_between}
use Rattle.scr_options.specs.OptionWords.{Form, Text, Values, flag, options_of, valued}

-- pages as HTML, else as text; the name of the competition; the number of a group, from 1, that is wanted alone; whether
-- there are pictures, where that is said; and whether Square-1s are held to the Regulations
pub record Asked : Type 0 where
  pub html : Bool
  pub name : Text
  pub group : Option ℕ
  pub pictures : Option Bool
  pub regulations : Bool

-- pictures stand in HTML, and not in text, where nothing is said of them
abbrev pub has_pictures : Asked → Bool
has_pictures asked = unwrap_or asked.pictures asked.html

-- `--html`, `--name COMPETITION`, `--group N`, `--pictures no|yes` and `--regulations no|yes`
abbrev pub page_options : List Form
page_options =
    flag (codes "html") ∷ valued (codes "name") ∷ valued (codes "group") ∷ valued (codes "pictures")
    ∷ valued (codes "regulations") ∷ []

abbrev pub answer_of : Text → Option Bool
answer_of word =
    if bytes_eq word (codes "yes") then Some true else if bytes_eq word (codes "no") then Some false else None

abbrev pub group_of : Text → Option ℕ
group_of word = number_between 1 4294967295 word

-- what a value that was given is read as, if it was; none where it is read as nothing
abbrev pub read_value : {X : Type 0} → (Text → Option X) → Option Text → Option (Option X)
read_value read None = Some None
read_value read (Some value) = option_map Some (read value)

-- what the values of options ask for
abbrev pub asked_in : Values → Option Asked
asked_in values =
    option_and_then (λ group. option_and_then (λ pictures. option_map (λ regulations. record {
      html = is_some (values (codes "html"));
      name = unwrap_or (values (codes "name")) [];
      group = group;
      pictures = pictures;
      regulations = unwrap_or regulations true;
    }) (read_value answer_of (values (codes "regulations")))) (read_value answer_of (values (codes "pictures")))) (read_value group_of (values (codes "group")))

-- what words ask for, if anything
abbrev pub asked_for : List Text → Option Asked
asked_for words = option_and_then asked_in (options_of page_options words)
