-- A round of a sheet: its slots, its lines and its text. The layout is our own choice.
use Rattle.std.specs.Prelude.{ℕ, zero, suc, ◌+◌, ◌*◌, ◌<◌, ◌≤◌, Option, Some, None, List, [], ◌∷◌, ◌++◌, map, codes}
use Rattle.std.specs.List.{slice_index_or}
use Rattle.std.specs.Fmt.{decimal}
use Rattle.scr_notation.specs.declared.turn.Turn.{Turn}
use Rattle.scr_notation.specs.Event.{name_of, per_group_of, minima_of, greatest_of}
use Rattle.scr_notation.specs.Spelling.{text_of}
use Rattle.scr_text.specs.Lines.{text_of_lines}
use Rattle.scr_notation.specs.declared.event.Minima.{Minima}
use Rattle.scr_list.specs.declared.round.Round.{Round}

-- The numbers of a round are in their ranges. Its name may hold anything: what lists take is not asked of a round that
-- is made.
pub record IsInRange (round : Round) : Type 0 where
  pub some_groups : 1 ≤ round.groups
  pub few_groups : round.groups ≤ 26
  pub least : round.least ≤ greatest_of round.event

-- how many slots a round has: for each group one for each of its scrambles, and two for the extra ones
abbrev pub slots_of : Round → ℕ
slots_of round = round.groups * (per_group_of round.event + 2)

-- ---- the lines

-- A line of a round: a text that is there whatever the scrambles are, or the scramble of a slot behind a label. Slots
-- are numbered from 0 through the round.
pub data Line : Type 0 where
  Fixed : List ℕ → Line
  Slot : List ℕ → ℕ → Line

-- the labels of scrambles from a number on, and then of the two extra ones
abbrev pub labels_from : ℕ → ℕ → List (List ℕ)
labels_from number zero = codes "E1. " ∷ codes "E2. " ∷ []
labels_from number (suc more) = (decimal number ++ codes ". ") ∷ labels_from (number + 1) more

-- slots one after another from a slot on, each behind its label
abbrev pub slot_lines : List (List ℕ) → ℕ → List Line
slot_lines [] slot = []
slot_lines (label ∷ labels) slot = Slot label slot ∷ slot_lines labels (slot + 1)

-- a group with this letter, from a slot on: its name, its scrambles, an empty line
abbrev pub group_lines : ℕ → ℕ → ℕ → List Line
group_lines own letter slot =
    Fixed (codes "Group " ++ letter ∷ []) ∷ slot_lines (labels_from 1 own) slot ++ Fixed [] ∷ []

-- so many groups from a slot on, the first with this letter
abbrev pub groups_lines : ℕ → ℕ → ℕ → ℕ → List Line
groups_lines own zero letter slot = []
groups_lines own (suc more) letter slot =
    group_lines own letter slot ++ groups_lines own more (letter + 1) (slot + (own + 2))

-- what the head of a round says of its minimum
abbrev pub minimum_text : Option Minima → ℕ → List ℕ
minimum_text (Some minima) least = codes ", at least " ++ decimal least
minimum_text None least = codes ", random moves"

-- what it says of its name, where it has one
abbrev pub own_name_text : List ℕ → List ℕ
own_name_text [] = []
own_name_text (byte ∷ name) = codes ", " ++ byte ∷ name

-- the head of round k, counted from 0
abbrev pub heading : ℕ → Round → List ℕ
heading k round =
    codes "Round " ++ decimal (k + 1) ++ codes ": " ++ name_of round.event
    ++ minimum_text (minima_of round.event) round.least ++ own_name_text round.name

-- the lines of round k: its head, and its groups, lettered from A
abbrev pub round_lines : ℕ → Round → List Line
round_lines k round = Fixed (heading k round) ∷ groups_lines (per_group_of round.event) round.groups 65 0

-- ---- the text

-- the text of a line of a round whose slots have these scrambles
abbrev pub line_text : List (List Turn) → Line → List ℕ
line_text scrambles (Fixed text) = text
line_text scrambles (Slot label slot) = label ++ text_of (slice_index_or scrambles slot [])

-- the text of round k with these scrambles
abbrev pub round_text : ℕ → Round → List (List Turn) → List ℕ
round_text k round scrambles = text_of_lines (map (line_text scrambles) (round_lines k round))

-- a line's slot is one of so many
abbrev pub IsBelow : ℕ → Line → Type 0
IsBelow slots (Fixed text) = Unit {0}
IsBelow slots (Slot label slot) = slot < slots
