-- Places as code holds them.
use Rattle.std.specs.Prelude.{ℕ, ◌≡◌, ◌+◌, ◌<◌, ◌≤◌, List, drop, Result, Ok, Err}
use Rattle.scr_notation.specs.Event.{per_group_of}
use Rattle.scr_round.specs.Round.{labels_from}
use Rattle.scr_read.specs.declared.place.Stand.{Stand}
use Rattle.scr_read.specs.declared.place.Stand.TheVariants as code
use Rattle.scr_read.specs.declared.place.Step.{Step}
use Rattle.scr_read.specs.declared.piece.Piece.{Piece}
use Rattle.scr_read.specs.declared.piece.Piece.TheVariants as piece
use Rattle.scr_read.specs.declared.fault.SheetCause.{SheetCause}
use Rattle.scr_read.specs.Heads.{HeadOf}
use Rattle.scr_read.specs.Reading.{Place, Start, Between, InGroup, IsHeading, IsLine}
use Rattle.scr_read.specs.Faults.{IsCauseAt}

-- the place: in a group so many of its labels stand before
abbrev pub place_of : Stand → Place
place_of code.Start = Start
place_of (code.Between rounds event groups) = Between rounds event groups
place_of (code.InGroup rounds event groups slot) =
    InGroup rounds event groups (drop slot (labels_from 1 (per_group_of event)))

-- its numbers are those of a sheet
abbrev pub IsStand : Stand → Type 0
IsStand code.Start = Unit {0}
IsStand (code.Between rounds event groups) = groups ≤ 26
IsStand (code.InGroup rounds event groups slot) = (groups < 26) × (slot ≤ per_group_of event + 2)

-- a line was read as this, which may stand at the place; or it may not stand there, and this is told of it
abbrev pub ReadsLine : Place → List ℕ → Result Step SheetCause → Type 0
ReadsLine place line (Ok step) = IsLine place line step.piece (place_of step.next) × IsStand step.next
ReadsLine place line (Err cause) =
    IsCauseAt place line cause × ((piece : Piece) (next : Place) → IsLine place line piece next → ⊥)

-- a line was read as the head of a round, before which so many began
pub record ReadsHead (rounds : ℕ) (line : List ℕ) (step : Step) : Type 0 where
  pub head : HeadOf
  pub few : rounds < 256
  pub is : IsHeading rounds line head
  pub piece : step.piece ≡ piece.Head head
  pub next : step.next ≡ code.Between (rounds + 1) head.event 0
