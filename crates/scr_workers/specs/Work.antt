-- What a worker leaves.
use Rattle.std.specs.Prelude.{◌≡◌, ℕ, ◌<◌, ◌≤◌, List, [], ◌∷◌, ◌++◌, map, All}
use Rattle.scr_workers.specs.Seats.{Placed}

module _ {T : Type 0} where
  abbrev pub slot_of : ℕ × T → ℕ
  slot_of entry = entry.0

  -- an answer with its slot
  abbrev pub IsAnswerOfSlot : (ℕ → T → Type 0) → ℕ × T → Type 0
  IsAnswerOfSlot IsAnswer entry = IsAnswer entry.0 entry.1

  -- The seat's list ends with a number that is no slot. All its earlier numbers are slots, and `own` has these in
  -- order, each with an answer of it, and nothing else.
  pub record HasWorked (slots : ℕ) (IsAnswer : ℕ → T → Type 0) (seat : Placed) (own : List (ℕ × T)) : Type 0 where
    pub earlier : List ℕ
    pub last : ℕ
    pub list_is : seat.me.0.list ≡ earlier ++ last ∷ []
    pub last_is : slots ≤ last
    pub below : All (λ number. number < slots) earlier
    pub own_slots : map slot_of own ≡ earlier
    pub answers : All (IsAnswerOfSlot IsAnswer) own

-- a seat as it was, but for its claims
pub record IsSameSeat (before after : Placed) : Type 0 where
  pub word : after.table_id ≡ before.table_id
  pub weight : after.me.0.weight ≡ before.me.0.weight
  pub held : after.me.1 ≡ before.me.1
