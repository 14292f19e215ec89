-- What the pages of a group say of it. The words are our own choice.
use Rattle.std.specs.Prelude.{ℕ, ◌+◌, ◌-◌, List, [], ◌∷◌, ◌++◌, map, take, length, codes}
use Rattle.std.specs.Fmt.{decimal}
use Rattle.scr_notation.specs.declared.event.Event.{Event}
use Rattle.scr_notation.specs.Event.{name_of, per_group_of}
use Rattle.scr_round.specs.Round.{labels_from}
use Rattle.scr_layout.specs.Group.{Group}

-- the name of its group in the round, a letter from A
abbrev pub group_letter : Group → List ℕ
group_letter group = codes "group " ++ (65 + group.number) ∷ []

-- as "3x3x3 Cube, group A of 4"
abbrev pub title_of : Group → List ℕ
title_of group = name_of group.event ++ codes ", " ++ group_letter group ++ codes " of " ++ decimal group.groups

-- which of the rounds of its event it is, as "1 of 3"
abbrev pub place_of : Group → List ℕ
place_of group = decimal group.event_round ++ codes " of " ++ decimal group.event_rounds

-- the name of a round, where it has one
abbrev pub own_name : List ℕ → List ℕ
own_name [] = []
own_name (byte ∷ name) = codes ": " ++ byte ∷ name

-- as "Round 1 of 3: First round"
abbrev pub round_line_of : Group → List ℕ
round_line_of group = codes "Round " ++ place_of group ++ own_name group.name

-- as "round 1 of 3, group A", which stands at each scramble
abbrev pub tag_of : Group → List ℕ
tag_of group = codes "round " ++ place_of group ++ codes ", " ++ group_letter group

-- the labels of a group's slots: those of a sheet, without the space behind
abbrev pub labels_of : Event → List (List ℕ)
labels_of event = map (λ label. take (length label - 1) label) (labels_from 1 (per_group_of event))
