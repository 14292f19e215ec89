-- Why a sheet has no pages.
use Rattle.std.specs.Prelude.{ℕ, ◌≡◌, ◌≤◌, Bool, true, false, Option, Some, None, List, ◌∷◌, ◌++◌, length, All}
use Rattle.scr_read.specs.Groups.{GroupOf}
use Rattle.scr_pages.specs.Asked.{Asked}
use Rattle.scr_pages.specs.Slots.{Slot, slots_of, IsBarred, IsNear}

-- no slot is such a one
abbrev pub NoneIs : (Slot → Type 0) → List Slot → Type 0
NoneIs Is slots = All (λ slot. Is slot → ⊥) slots

-- the first slot that is such a one stands in this line
pub record IsFirst (Is : Slot → Type 0) (slots : List Slot) (line : ℕ) : Type 0 where
  pub before : List Slot
  pub slot : Slot
  pub behind : List Slot
  pub slots_are : slots ≡ before ++ slot ∷ behind
  pub none : NoneIs Is before
  pub is : Is slot
  pub line_is : line ≡ slot.line

-- the group that is asked for is one of so many
abbrev pub HasGroup : Option ℕ → ℕ → Type 0
HasGroup None count = Unit {0}
HasGroup (Some number) count = (1 ≤ number) × (number ≤ count)

-- where Square-1s are held to the Regulations, each needs eleven turns
abbrev pub MeetsRegulations : Bool → List Slot → Type 0
MeetsRegulations false slots = Unit {0}
MeetsRegulations true slots = NoneIs IsNear slots

-- Groups have pages.
pub record HasPages (asked : Asked) (groups : List GroupOf) : Type 0 where
  pub none_barred : NoneIs IsBarred (slots_of groups)
  pub has_group : HasGroup asked.group (length groups)
  pub regulations : MeetsRegulations asked.regulations (slots_of groups)
