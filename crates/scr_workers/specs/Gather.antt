-- What the workers leave, and what is gathered from it.
use Rattle.std.specs.Prelude.{◌≡◌, ℕ, ◌+◌, ◌<◌, cond, nat_eq, nat_lt, List, [], ◌∷◌, All, IsSomeAnd, Option, Some}
use Rattle.std.specs.Prelude.{None, map, sum_by, vec_len}
use Rattle.atomic_table.specs.Seated.{TableId}
use Rattle.scr_workers.specs.declared.lane.Lane.{Lane}
use Rattle.scr_workers.specs.declared.board.Board.{Board}
use Rattle.scr_workers.specs.Seats.{Placed}
use Rattle.scr_workers.specs.Rule.{weigh}
use Rattle.scr_workers.specs.Work.{slot_of, IsAnswerOfSlot, HasWorked}

-- one for x, and nothing for any other number
abbrev pub only : ℕ → ℕ → ℕ
only x y = cond (nat_eq y x) 1 0

-- how often x stands in a list
abbrev pub times : ℕ → List ℕ → ℕ
times x list = weigh (only x) list

-- one where x is below n, and else nothing
abbrev pub once_below : ℕ → ℕ → ℕ
once_below x n = cond (nat_lt x n) 1 0

abbrev pub list_in : Option Placed → List ℕ
list_in None = []
list_in (Some seat) = seat.me.0.list

module _ {T : Type 0} where
  -- a seat of this word, that holds nothing of its table
  abbrev pub IsSeated : TableId → Lane T → Type 0
  IsSeated word lane = IsSomeAnd lane.seat (λ seat. (seat.table_id ≡ word) × (seat.me.1 ≡ []))

  abbrev pub without_seat : Lane T → Lane T
  without_seat lane = record { seat = None; own = lane.own }

  -- what a worker leaves in its lane
  pub record HasRun (word : TableId) (slots : ℕ) (IsAnswer : ℕ → T → Type 0) (lane : Lane T) : Type 0 where
    pub seat : Placed
    pub seat_is : lane.seat ≡ Some seat
    pub of_word : seat.table_id ≡ word
    pub no_slot : seat.me.1 ≡ []
    pub worked : HasWorked slots IsAnswer seat lane.own.items

  -- a slot with an answer of it
  abbrev pub HasSlotAnswer : ℕ → (ℕ → T → Type 0) → ℕ × T → Type 0
  HasSlotAnswer slots IsAnswer entry = (entry.0 < slots) × IsAnswerOfSlot IsAnswer entry

  -- the own lists together have each slot exactly once and no other number, each with an answer of it
  pub record HoldAnswers (slots : ℕ) (IsAnswer : ℕ → T → Type 0) (lanes : List (Lane T)) : Type 0 where
    pub once : (x : ℕ) → sum_by (λ (lane : Lane T). times x (map slot_of lane.own.items)) lanes ≡ once_below x slots
    pub answers : All (λ lane. All (HasSlotAnswer slots IsAnswer) lane.own.items) lanes

  -- a lane with no seat and no answer
  abbrev pub IsSpent : Lane T → Type 0
  IsSpent lane = (lane.seat ≡ None) × (lane.own.items ≡ [])

  -- The lanes after a run of so many workers: the first lane's seat claimed each number below the slots and the
  -- workers together exactly once, and no other number; the other lanes have no seat, and none has an answer left.
  pub record AreDone (word : TableId) (slots workers : ℕ) (lanes : List (Lane T)) : Type 0 where
    pub first : Lane T
    pub others : List (Lane T)
    pub seat : Placed
    pub lanes_are : lanes ≡ first ∷ others
    pub seat_is : first.seat ≡ Some seat
    pub of_word : seat.table_id ≡ word
    pub no_answer : first.own.items ≡ []
    pub spent : All IsSpent others
    pub once : (x : ℕ) → times x seat.me.0.list ≡ once_below x (slots + workers)

  -- a board after its run
  pub record IsDone (slots : ℕ) (before after : Board T) : Type 0 where
    pub same_word : after.table.table.shared.table_id ≡ before.table.table.shared.table_id
    pub same_count : vec_len after.lanes ≡ vec_len before.lanes
    pub lanes : AreDone before.table.table.shared.table_id slots (vec_len before.lanes) after.lanes.items
