-- What the memory for rounds holds.
use Rattle.std.specs.Prelude.{◌≡◌, ℕ, ◌+◌, ◌≤◌, List, length, All}
use Rattle.std.specs.Vec.{vec_len, vec_capacity}
use Rattle.scr_workers.specs.Boards.{HasRoom}
use Rattle.scr_list.specs.declared.round.Round.{Round}
use Rattle.scr_round.specs.Round.{slots_of}
use Rattle.scr_sheet.specs.declared.room.Room.{Room}

-- It has room for so many rounds, each with as many slots as it has places for answers.
pub record IsRoom (rounds : ℕ) (room : Room) : Type 0 where
  pub words : rounds ≤ vec_len room.words
  pub some_lane : 1 ≤ vec_len room.lanes
  pub few_lanes : vec_len room.lanes ≤ 64
  pub lanes : All (HasRoom (vec_len room.answers)) room.lanes.items
  pub scrambles : vec_len room.answers ≤ vec_capacity room.scrambles

-- It has room for these rounds.
pub record IsRoomFor (rounds : List Round) (room : Room) : Type 0 where
  pub each : All (λ round. slots_of round ≤ vec_len room.answers) rounds
  pub is : IsRoom (length rounds) room

-- A round was made in it: there is room for one fewer.
pub record SpendsOne (before after : Room) : Type 0 where
  pub left : (rounds : ℕ) → IsRoom (rounds + 1) before → IsRoom rounds after
  pub places : vec_len after.answers ≡ vec_len before.answers
