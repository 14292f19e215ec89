-- What a competition's file holds beside the sets of its rounds.
use Rattle.std.specs.Prelude.{ℕ, if◌then◌else◌, List, [], ◌∷◌, codes}
use Rattle.std.specs.Str.{bytes_eq}
use Rattle.json.specs.Json.{Json, null, boolean, number, string, array, object, Members, no_members, member}
use Rattle.scr_wcif.specs.Filling.{changed_along}

-- members without those at a key
abbrev pub without_member : List ℕ → Members → Members
without_member key no_members = no_members
without_member key (member name json more) =
    if bytes_eq name key then without_member key more else member name json (without_member key more)

-- an object without what it has at a key
abbrev pub without_field : List ℕ → Json → Json
without_field key null = null
without_field key (boolean b) = boolean b
without_field key (number text) = number text
without_field key (string text) = string text
without_field key (array items) = array items
without_field key (object members) = object (without_member key members)

-- a file of which no round of an event has sets; all else as it was, in its order
abbrev pub without_sets : Json → Json
without_sets file = changed_along (codes "events" ∷ codes "rounds" ∷ []) (without_field (codes "scrambleSets")) file
