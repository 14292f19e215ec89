-- The sets of a sheet, as they are gathered from its groups, one after another.
use Rattle.std.specs.Prelude.{◌==◌, if◌then◌else◌, List, [], ◌∷◌, ◌++◌}
use Rattle.scr_read.specs.Groups.{GroupOf}
use Rattle.scr_wcif.specs.Sets.{ScrambleSet, EventSets}
use Rattle.scr_wcif.specs.Taking.{taken_set}

-- the set of a group
abbrev pub set_of_group : GroupOf → ScrambleSet
set_of_group group = taken_set group.head.event group.number group.scrambles

-- rounds with one more set in the last of them
abbrev pub with_last : List EventSets → ScrambleSet → List EventSets
with_last [] set = []
with_last (round ∷ []) set = record { event = round.event; sets = round.sets ++ set ∷ [] } ∷ []
with_last (round ∷ next ∷ more) set = round ∷ with_last (next ∷ more) set

-- rounds with the set of one more group, which begins a round where it is the round's first
abbrev pub with_group : List EventSets → GroupOf → List EventSets
with_group rounds group =
    if group.number == 0 then rounds ++ record { event = group.head.event; sets = set_of_group group ∷ [] } ∷ []
    else with_last rounds (set_of_group group)

abbrev pub with_groups : List EventSets → List GroupOf → List EventSets
with_groups rounds [] = rounds
with_groups rounds (group ∷ groups) = with_groups (with_group rounds group) groups
