-- How far the slots of a sheet were looked at.
use Rattle.std.specs.Prelude.{ℕ, ◌≡◌, ◌≤◌, Option, Some, None, List, ◌++◌, All, length}
use Rattle.scr_read.specs.Groups.{GroupOf}
use Rattle.scr_host.specs.declared.fault.Fault.TheVariants as fault
use Rattle.scr_pages.specs.Faults.{RunFault as Fault}
use Rattle.scr_pages.specs.declared.fault.PageFault.TheVariants as page
use Rattle.scr_pages.specs.Slots.{Slot, slots_of, IsBarred, IsNear}
use Rattle.scr_pages.specs.Refusals.{NoneIs, IsFirst}

-- of all groups these are left, and no slot of those before is such a one
pub record Passes (Is : Slot → Type 0) (all left : List GroupOf) : Type 0 where
  pub done : List GroupOf
  pub all_is : all ≡ done ++ left
  pub none : NoneIs Is (slots_of done)

-- which of these slots is the first such one, by its line; or none is
abbrev pub IsFound : (Slot → Type 0) → List Slot → Option ℕ → Type 0
IsFound Is slots (Some line) = IsFirst Is slots line
IsFound Is slots None = NoneIs Is slots

-- groups are as few as a sheet has at most, and stand as far down in it at most
pub record AreFew (groups : List GroupOf) : Type 0 where
  pub few : length groups ≤ 6656
  pub lines : All (λ group. group.line ≤ 65536) groups

-- why the first pass over these groups ends early: a scramble can't be played, or memory is wanting
abbrev pub FailsSurvey : List GroupOf → Fault → Type 0
FailsSurvey groups (fault.Own (page.Barred line)) = IsFirst IsBarred (slots_of groups) line
FailsSurvey groups fault.NoMemory = Unit {0}
FailsSurvey groups other = ⊥

-- why the look at these groups' Square-1s does
abbrev pub FailsLook : List GroupOf → Fault → Type 0
FailsLook groups (fault.Own (page.Near line)) = IsFirst IsNear (slots_of groups) line
FailsLook groups fault.NoMemory = Unit {0}
FailsLook groups other = ⊥
