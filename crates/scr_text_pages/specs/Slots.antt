-- The scrambles of a group as its pages tell them.
use Rattle.std.specs.Prelude.{ℕ, Bool, List, [], ◌∷◌, ◌++◌, map, codes}
use Rattle.scr_notation.specs.Event.{name_of}
use Rattle.scr_notation.specs.Spelling.{spelling}
use Rattle.scr_notation.specs.Written.{Written}
use Rattle.scr_layout.specs.Group.{Group}
use Rattle.scr_layout.specs.Texts.{tag_of, labels_of}
use Rattle.scr_text_pages.specs.Reading.{ReadSlot}
use Rattle.scr_text_pages.specs.Nets.{nets}

-- what stands above each of them: as "3x3x3 Cube, round 1 of 3, group A"
abbrev pub cut_text_of : Group → List ℕ
cut_text_of group = name_of group.event ++ codes ", " ++ tag_of group

-- a scramble with its label, and with its net, where nets are asked for
abbrev pub slot_words : Bool → List ℕ → Written → List (List ℕ)
slot_words pictures label scramble = label ∷ map spelling scramble.turns ++ nets pictures scramble

-- scrambles with their labels
abbrev pub labelled : Bool → List ℕ → List (List ℕ) → List Written → List ReadSlot
labelled pictures of (label ∷ labels) (scramble ∷ scrambles) =
    record { of = of; words = slot_words pictures label scramble } ∷ labelled pictures of labels scrambles
labelled pictures of labels scrambles = []

-- those of a group
abbrev pub slots_of_group : Bool → Group → List ReadSlot
slots_of_group pictures group = labelled pictures (cut_text_of group) (labels_of group.event) group.scrambles
