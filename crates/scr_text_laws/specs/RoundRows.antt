-- Two rounds with their texts, as the layout asks for them.
use Rattle.std.specs.Prelude.{ℕ, List, [], ◌∷◌, codes}
use Rattle.scr_notation.specs.declared.event.Event.TheVariants.{C222, C666, Clock}
use Rattle.scr_notation.specs.declared.turn.Turn.{Turn}
use Rattle.scr_notation.specs.declared.turn.Turn.TheVariants.{Face}
use Rattle.scr_text.specs.Lines.{text_of_lines}
use Rattle.scr_list.specs.declared.round.Round.{Round}

-- the outer layer at U, R and F: so many quarters clockwise
abbrev pub u : ℕ → Turn
u amount = Face 0 1 amount

abbrev pub r : ℕ → Turn
r amount = Face 1 1 amount

abbrev pub f : ℕ → Turn
f amount = Face 2 1 amount

-- ---- two groups, with a minimum; one scramble is empty

abbrev pub two_groups : Round
two_groups = record { event = C222; groups = 2; least = 4; name = [] }

abbrev pub scrambles_of_two_groups : List (List Turn)
scrambles_of_two_groups =
    (u 1 ∷ []) ∷ (r 2 ∷ []) ∷ (f 3 ∷ u 2 ∷ []) ∷ [] ∷ (u 1 ∷ r 1 ∷ f 1 ∷ []) ∷ (f 2 ∷ []) ∷ (r 3 ∷ [])
    ∷ (u 2 ∷ []) ∷ (u 3 ∷ []) ∷ (f 1 ∷ r 3 ∷ []) ∷ (r 1 ∷ []) ∷ (f 3 ∷ []) ∷ (r 2 ∷ f 2 ∷ []) ∷ (f 1 ∷ []) ∷ []

abbrev pub text_of_two_groups : List ℕ
text_of_two_groups =
    text_of_lines
    (codes "Round 1: 2x2x2 Cube, at least 4" ∷ codes "Group A" ∷ codes "1. U" ∷ codes "2. R2" ∷ codes "3. F' U2"
    ∷ codes "4. " ∷ codes "5. U R F" ∷ codes "E1. F2" ∷ codes "E2. R'" ∷ codes "" ∷ codes "Group B" ∷ codes "1. U2"
    ∷ codes "2. U'" ∷ codes "3. F R'" ∷ codes "4. R" ∷ codes "5. F'"
    ∷ codes "E1. R2 F2" ∷ codes "E2. F" ∷ codes "" ∷ [])

-- ---- one group of random moves, the tenth round of a list

abbrev pub one_group : Round
one_group = record { event = C666; groups = 1; least = 0; name = [] }

abbrev pub scrambles_of_one_group : List (List Turn)
scrambles_of_one_group =
    (Face 0 3 1 ∷ u 1 ∷ []) ∷ (Face 3 2 2 ∷ []) ∷ (Face 5 1 3 ∷ Face 4 2 1 ∷ []) ∷ (Face 1 3 3 ∷ []) ∷ (f 2 ∷ []) ∷ []

abbrev pub text_of_one_group : List ℕ
text_of_one_group =
    text_of_lines
    (codes "Round 10: 6x6x6 Cube, random moves" ∷ codes "Group A" ∷ codes "1. 3Uw U" ∷ codes "2. Dw2" ∷ codes "3. B' Lw"
    ∷ codes "E1. 3Rw'" ∷ codes "E2. F2" ∷ codes "" ∷ [])

-- ---- a round with a name

abbrev pub round_with_name : Round
round_with_name = record { event = Clock; groups = 1; least = 2; name = codes "Final" }
