-- A lane and a board as `Board::new` makes them, and lanes without seats.
use Rattle.std.specs.Prelude.{◌≡◌, ℕ, ◌<◌, ◌≤◌, [], All, IsSomeAnd, Option, Some, None, List, length, slice_index_or, vec_len, vec_capacity, sum_by}
use Rattle.atomic_table.specs.Seated.{TableId}
use Rattle.scr_workers.specs.Seats.{Placed, IsFreshSeat}
use Rattle.scr_workers.specs.declared.lane.Lane.{Lane}
use Rattle.scr_workers.specs.declared.board.Board.{Board}
use Rattle.scr_workers.specs.declared.table.ClaimTable.{ClaimTable}
use Rattle.scr_workers.specs.declared.word.ClaimWord.{ClaimWord}

abbrev pub weight_in : Option Placed → ℕ
weight_in None = 0
weight_in (Some seat) = seat.me.0.weight

-- which claim word it is
abbrev pub word_id : ClaimTable → TableId
word_id table = table.table.shared.table_id

-- and of a fresh one
abbrev pub word_of : ClaimWord → TableId
word_of word = word.table.table.shared.table_id

module _ {T : Type 0} where
  abbrev pub seat_of : Lane T → Option Placed
  seat_of lane = lane.seat

  abbrev pub own_of : Lane T → List (ℕ × T)
  own_of lane = lane.own.items

  abbrev pub lanes_of : Board T → List (Lane T)
  lanes_of board = board.lanes.items

  abbrev pub lane_count : Board T → ℕ
  lane_count board = vec_len board.lanes

  -- an empty own list with room for so many slots
  pub record HasRoom (slots : ℕ) (lane : Lane T) : Type 0 where
    pub no_answer : lane.own.items ≡ []
    pub room : slots ≤ vec_capacity lane.own

  -- the own lists have the room that they had
  abbrev pub KeepRoom : List (Lane T) → List (Lane T) → Type 0
  KeepRoom before after = (i : ℕ) (d : Lane T) → i < length before
      → vec_capacity (slice_index_or after i d).own ≡ vec_capacity (slice_index_or before i d).own

  -- a lane with a fresh seat, and an empty own list with room for so many slots
  pub record IsFreshLane (word : TableId) (slots : ℕ) (lane : Lane T) : Type 0 where
    pub seated : IsSomeAnd lane.seat (IsFreshSeat word)
    pub no_answer : lane.own.items ≡ []
    pub room : slots ≤ vec_capacity lane.own

  -- a board with so many fresh lanes, whose seats have the whole weight
  pub record IsFresh (workers slots : ℕ) (board : Board T) : Type 0 where
    pub workers_is : vec_len board.lanes ≡ workers
    pub lanes : All (IsFreshLane board.table.table.shared.table_id slots) board.lanes.items
    pub weights : sum_by (λ (lane : Lane T). weight_in lane.seat) board.lanes.items ≡ 64
