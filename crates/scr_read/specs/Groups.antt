-- The groups of a sheet, one after another.
use Rattle.std.specs.Prelude.{ℕ, ◌≡◌, ◌+◌, ◌<◌, Option, Some, None, List, [], ◌∷◌, ◌++◌, map, length}
use Rattle.scr_notation.specs.declared.event.Event.{Event}
use Rattle.scr_notation.specs.declared.turn.Turn.{Turn}
use Rattle.scr_notation.specs.Written.{Written}
use Rattle.scr_list.specs.Rounds.{IsRound}
use Rattle.scr_read.specs.Heads.{HeadOf}
use Rattle.scr_read.specs.Reading.{as_round, head_of}
use Rattle.scr_read.specs.Sheets.{SheetRound, AreGroup}

-- a group: the number of its round in the sheet, from 0, and that round's head; its own number in the round, from 0;
-- the number, from 1, of the line with its name; and its scrambles, in the order of the slots
pub record GroupOf : Type 0 where
  pub round : ℕ
  pub head : HeadOf
  pub number : ℕ
  pub line : ℕ
  pub scrambles : List (List Turn)

-- those of a round, the first of them with this number and its name in this line; each has a name, its scrambles and an
-- empty line
abbrev pub groups_from : ℕ → HeadOf → ℕ → ℕ → List (List (List Turn)) → List GroupOf
groups_from round head number line [] = []
groups_from round head number line (group ∷ groups) =
    record { round = round; head = head; number = number; line = line; scrambles = group }
    ∷ groups_from round head (number + 1) (line + (length group + 2)) groups

-- how many lines groups have
abbrev pub lines_of_groups : List (List (List Turn)) → ℕ
lines_of_groups [] = 0
lines_of_groups (group ∷ groups) = length group + 2 + lines_of_groups groups

-- those of rounds, the first of them round k, whose head stands in this line
abbrev pub groups_of_rounds : ℕ → ℕ → List SheetRound → List GroupOf
groups_of_rounds k line [] = []
groups_of_rounds k line (round ∷ rounds) =
    groups_from k (head_of round) 0 (line + 1) round.groups
    ++ groups_of_rounds (k + 1) (line + 1 + lines_of_groups round.groups) rounds

-- all groups of a sheet's rounds
abbrev pub groups_of : List SheetRound → List GroupOf
groups_of rounds = groups_of_rounds 0 1 rounds

-- a group of a sheet: its numbers are in their ranges, its head is that of a round which lists can name, and it has a
-- scramble for each slot
pub record IsGroup (group : GroupOf) : Type 0 where
  pub round : group.round < 256
  pub head : IsRound (as_round group.head)
  pub number : group.number < 26
  pub scrambles : AreGroup group.head.event group.scrambles

-- turns as scrambles of an event
abbrev pub scrambles_of : Event → List (List Turn) → List Written
scrambles_of event turns = map (λ t. record { event = event; turns = t }) turns

-- of these groups, which were left, the first was given, and those are left; or none was
abbrev pub GivesFirst : List GroupOf → List GroupOf → Option GroupOf → Type 0
GivesFirst before after (Some group) = before ≡ group ∷ after
GivesFirst before after None = (before ≡ []) × (after ≡ [])
