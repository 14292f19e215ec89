-- A competition's file with the scrambles of its rounds (WCIF, formatVersion 1.0), as a function of its JSON value.
use Rattle.std.specs.Prelude.{ℕ, if◌then◌else◌, Option, Some, None, option_and_then, List, [], ◌∷◌, map, codes}
use Rattle.std.specs.Str.{bytes_eq}
use Rattle.json.specs.Json.{Json, null, boolean, number, string, array, object, Items, no_items, item, Members, no_members, member}
use Rattle.json.specs.Value.{items_of}
use Rattle.scr_wcif.specs.Fields.{text_at}
use Rattle.scr_wcif.specs.Sets.{ScrambleSet, RoundSets}

-- ---- the sets of a round

abbrev pub texts_of : List (List ℕ) → Json
texts_of texts = array (items_of (map string texts))

-- those of a group
abbrev pub set_of : ScrambleSet → Json
set_of set =
    object (member (codes "id") (number set.number)
    (member (codes "scrambles") (texts_of set.scrambles)
    (member (codes "extraScrambles") (texts_of set.extras) no_members)))

abbrev pub sets_of : List ScrambleSet → Json
sets_of sets = array (items_of (map set_of sets))

-- ---- a round

-- an object's members with this value at a key: in its place where the key stands there, and else behind the others
abbrev pub with_member : List ℕ → Json → Members → Members
with_member key new no_members = member key new no_members
with_member key new (member name old more) =
    if bytes_eq name key then member name new more else member name old (with_member key new more)

-- an object with this value at a key
abbrev pub with_field : List ℕ → Json → Json → Json
with_field key new null = null
with_field key new (boolean b) = boolean b
with_field key new (number text) = number text
with_field key new (string text) = string text
with_field key new (array items) = array items
with_field key new (object members) = object (with_member key new members)

-- the sets that stand under an id
abbrev pub sets_at : List RoundSets → List ℕ → Option (List ScrambleSet)
sets_at [] id = None
sets_at (round ∷ more) id = if bytes_eq round.id id then Some round.sets else sets_at more id

abbrev pub with_sets : Option (List ScrambleSet) → Json → Json
with_sets None round = round
with_sets (Some sets) round = with_field (codes "scrambleSets") (sets_of sets) round

-- a round gets the sets that stand under its id, if any do
abbrev pub filled_round : List RoundSets → Json → Json
filled_round rounds round = with_sets (option_and_then (sets_at rounds) (text_at (codes "id") round)) round

-- ---- a file

abbrev pub changed_items : (Json → Json) → Items → Items
changed_items change no_items = no_items
changed_items change (item json more) = item (change json) (changed_items change more)

-- each item of a list changed
abbrev pub each_item : (Json → Json) → Json → Json
each_item change null = null
each_item change (boolean b) = boolean b
each_item change (number text) = number text
each_item change (string text) = string text
each_item change (array items) = array (changed_items change items)
each_item change (object members) = object members

abbrev pub changed_members : List ℕ → (Json → Json) → Members → Members
changed_members key change no_members = no_members
changed_members key change (member name json more) =
    member name (if bytes_eq name key then each_item change json else json) (changed_members key change more)

-- an object with each item of the list at a key changed
abbrev pub changed_at : List ℕ → (Json → Json) → Json → Json
changed_at key change null = null
changed_at key change (boolean b) = boolean b
changed_at key change (number text) = number text
changed_at key change (string text) = string text
changed_at key change (array items) = array items
changed_at key change (object members) = object (changed_members key change members)

-- the items of lists within the items of lists, at these keys, changed
abbrev pub changed_along : List (List ℕ) → (Json → Json) → Json → Json
changed_along [] change json = change json
changed_along (key ∷ keys) change json = changed_at key (changed_along keys change) json

-- a file in which each round of each event has its sets; all else stays as it was, in its order
abbrev pub filled : List RoundSets → Json → Json
filled rounds file = changed_along (codes "events" ∷ codes "rounds" ∷ []) (filled_round rounds) file
