-- Seats at a claim word.
use Rattle.std.specs.Prelude.{◌≡◌, ◌≤◌, []}
use Rattle.atomic_table.specs.Seated.{TableId}
use Rattle.atomic_table.specs.declared.shared.Seat.{Seat}
use Rattle.scr_workers.specs.declared.rule.Claims.{Claims}

-- a worker's seat
abbrev pub Placed : Type 0
Placed = Seat (Unit {0}) Claims

-- a seat of this word, with some weight and no claim
pub record IsFreshSeat (word : TableId) (seat : Placed) : Type 0 where
  pub of_word : seat.table_id ≡ word
  pub some_weight : 1 ≤ seat.me.0.weight
  pub no_claim : seat.me.0.list ≡ []
  pub no_slot : seat.me.1 ≡ []
