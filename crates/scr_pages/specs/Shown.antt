-- The groups of a sheet, as their pages show them.
use Rattle.std.specs.Prelude.{ℕ, ◌+◌, ◌-◌, Bool, Option, Some, None, List, map, take, drop, length, count_by, slice_index}
use Rattle.std.specs.Str.{bytes_eq}
use Rattle.scr_notation.specs.declared.event.Event.{Event}
use Rattle.scr_notation.specs.Event.{id_of}
use Rattle.scr_read.specs.Sheets.{SheetRound}
use Rattle.scr_read.specs.Groups.{GroupOf, groups_of, scrambles_of}
use Rattle.scr_layout.specs.Group.{Group}

-- two events are the same
abbrev pub is_event : Event → Event → Bool
is_event event other = bytes_eq (id_of event) (id_of other)

-- how many of these rounds are of an event
abbrev pub rounds_of_event : Event → List SheetRound → ℕ
rounds_of_event event rounds = count_by (λ round. is_event event round.event) rounds

-- how many groups each round has
abbrev pub group_counts : List SheetRound → List ℕ
group_counts rounds = map (λ round. length round.groups) rounds

-- a group of a sheet of these rounds
abbrev pub shown_group : List SheetRound → GroupOf → Group
shown_group rounds group = record {
  event = group.head.event;
  sheet_round = group.round + 1;
  event_round = rounds_of_event group.head.event (take (group.round + 1) rounds);
  event_rounds = rounds_of_event group.head.event rounds;
  number = group.number;
  groups = slice_index (group_counts rounds) group.round;
  name = group.head.name;
  scrambles = scrambles_of group.head.event group.scrambles;
}

-- all of them, one after another
abbrev pub shown_groups : List SheetRound → List Group
shown_groups rounds = map (shown_group rounds) (groups_of rounds)

-- those that are asked for: all, or the one with this number, from 1
abbrev pub chosen : {X : Type 0} → Option ℕ → List X → List X
chosen None groups = groups
chosen (Some number) groups = take 1 (drop (number - 1) groups)
