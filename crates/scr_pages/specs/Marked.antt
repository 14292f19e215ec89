-- What code holds of the rounds of a sheet.
use Rattle.std.specs.Prelude.{◌+◌, ◌<◌, ◌≤◌, List, [], ◌∷◌, ◌++◌, map, take, length, slice_index}
use Rattle.scr_read.specs.Sheets.{SheetRound}
use Rattle.scr_read.specs.Groups.{GroupOf, IsGroup}
use Rattle.scr_pages.specs.declared.marks.RoundMark.{RoundMark}
use Rattle.scr_pages.specs.Shown.{group_counts}

-- of a round its event, and how many groups it has
abbrev pub mark_of_round : SheetRound → RoundMark
mark_of_round round = record { event = round.event; groups = length round.groups }

abbrev pub marks_of : List SheetRound → List RoundMark
marks_of rounds = map mark_of_round rounds

-- what is held behind one more group, with which its round begins or goes on
abbrev pub with_group : List RoundMark → GroupOf → List RoundMark
with_group marks group =
    take group.round marks ++ record { event = group.head.event; groups = group.number + 1 } ∷ []

abbrev pub with_groups : List RoundMark → List GroupOf → List RoundMark
with_groups marks [] = marks
with_groups marks (group ∷ groups) = with_groups (with_group marks group) groups

-- a group is one of a sheet of these rounds
pub record IsInSheet (rounds : List SheetRound) (group : GroupOf) : Type 0 where
  pub few : length rounds ≤ 256
  pub round : group.round < length rounds
  pub number : group.number < slice_index (group_counts rounds) group.round
  pub groups : slice_index (group_counts rounds) group.round ≤ 26
  pub valid : IsGroup group
