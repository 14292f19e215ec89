-- A group of a sheet, with what its pages say of where it stands.
use Rattle.std.specs.Prelude.{ℕ, ◌≡◌, ◌+◌, ◌<◌, ◌≤◌, List, length, All}
use Rattle.scr_notation.specs.declared.event.Event.{Event}
use Rattle.scr_notation.specs.Event.{per_group_of}
use Rattle.scr_notation.specs.Written.{Written}
use Rattle.scr_layout.specs.Shown.{HasNoControl}

-- Its event; the number of its round in the sheet, from 1; which of the rounds of its event that is, from 1, and how many
-- the sheet has; the number of the group in the round, from 0, and how many the round has; the round's name, which may be
-- empty; and the scrambles of its slots, the two extra ones last.
pub record Group : Type 0 where
  pub event : Event
  pub sheet_round : ℕ
  pub event_round : ℕ
  pub event_rounds : ℕ
  pub number : ℕ
  pub groups : ℕ
  pub name : List ℕ
  pub scrambles : List Written

-- it has a scramble for each slot of its event, its numbers are those of a sheet, and its round's name is in one line
pub record IsGroup (group : Group) : Type 0 where
  pub sheet_round : group.sheet_round ≤ 256
  pub event_round : group.event_round ≤ group.event_rounds
  pub event_rounds : group.event_rounds ≤ 256
  pub number : group.number < group.groups
  pub groups : group.groups ≤ 26
  pub name : HasNoControl group.name
  pub each_slot : length group.scrambles ≡ per_group_of group.event + 2
  pub each : All (λ scramble. scramble.event ≡ group.event) group.scrambles
