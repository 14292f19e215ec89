-- What an object has at a key, where it is of a kind.
use Rattle.std.specs.Prelude.{ℕ, Option, option_and_then, List}
use Rattle.json.specs.Json.{Json, Items}
use Rattle.json.specs.Find.{get, as_str, as_number, as_array}

-- a text
abbrev pub text_at : List ℕ → Json → Option (List ℕ)
text_at key json = option_and_then as_str (get key json)

-- a number, by its text
abbrev pub number_at : List ℕ → Json → Option (List ℕ)
number_at key json = option_and_then as_number (get key json)

-- a list
abbrev pub list_at : List ℕ → Json → Option Items
list_at key json = option_and_then as_array (get key json)
