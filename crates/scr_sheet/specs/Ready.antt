-- What is got ready by calls that see no seed, and how calls that see one end by it.
use Rattle.std.specs.Prelude.{◌≡◌, ◌⊎◌, ℕ, ◌≤◌, List, All, IsTrue, Option, codes, length, Result, Ok, Err}
use Rattle.std.specs.Result.{result_map_both}
use Rattle.scr_outside.specs.Change.{Change}
use Rattle.scr_check.specs.declared.fault.CheckFault.{CheckFault}
use Rattle.scr_check.specs.Reading.{Reading}
use Rattle.scr_check.specs.Taken.{ChecksSheet}
use Rattle.scr_list.specs.declared.fault.ListFault.{ListFault}
use Rattle.scr_list.specs.declared.round.Round.{Round}
use Rattle.scr_list.specs.RoundLists.{IsRounds}
use Rattle.scr_notation.specs.declared.event.Event.{Event}
use Rattle.scr_notation.specs.EventSets.{Has}
use Rattle.scr_slots.specs.declared.settings.Settings.{Settings}
use Rattle.scr_notation.specs.Event.{is_tested_by_table}
use Rattle.scr_slots.specs.Tables.{IsBuildCause}
use Rattle.scr_table.specs.declared.fault.BuildFault.{BuildFault}
use Rattle.scr_table.specs.declared.fault.BuildFault.TheVariants as build
use Rattle.scr_sheet.specs.declared.check.Tests.{Tests}
use Rattle.scr_fault.specs.declared.fault.Fault.{Fault}
use Rattle.scr_fault.specs.declared.fault.Fault.TheVariants as fault
use Rattle.scr_sheet.specs.declared.ready.Ready.{Ready}
use Rattle.scr_sheet.specs.Causes.{LacksTables}
use Rattle.scr_fault.specs.Faults.{fault_of_build, fault_of_check}
use Rattle.scr_sheet.specs.Check.{ReadsListPart, expected_lines, tested_events}
use Rattle.scr_sheet.specs.Outcome.{EndsTelling, Stops}
use Rattle.scr_sheet.specs.Room.{IsRoomFor}

-- ---- for scrambles

-- There are the tables of these rounds' events, and room for the rounds.
pub record IsReadyFor (rounds : List Round) (ready : Ready) : Type 0 where
  pub tables : All (λ round. Has ready.tables round.event) rounds
  pub room : IsRoomFor rounds ready.room

-- why tables of these events and room for rounds are not had
abbrev pub IsUnready : List Event → BuildFault → Type 0
IsUnready events why = IsBuildCause events why ⊎ (why ≡ build.NoMemory)

-- How a call ends that is handed what another got ready: as is said of it; or, where that failed, for the same reason,
-- with nothing written.
abbrev pub EndsAfter : {X : Type 0} → Result X BuildFault → (Change → Result (Unit {0}) Fault → Type 0) → Change
    → Result (Unit {0}) Fault → Type 0
EndsAfter (Ok ready) Ends out ended = Ends out ended
EndsAfter (Err why) Ends out ended = Stops (fault_of_build why) out ended

-- ---- for a check

-- The rounds are such as a list names, and there are the tables by which their states are tested.
pub record AreTests (tests : Tests) : Type 0 where
  pub rounds : IsRounds tests.rounds.items
  pub tables : All (λ round. IsTrue (is_tested_by_table round.event) → Has tests.tables round.event) tests.rounds.items

module _ {S : Type 0} (left : S → Option (List ℕ)) (faults ends : S → ℕ) where
  -- A list part was taken, whose rounds are these; or it is no list, or was not read; or the tables could not be built
  -- by which its rounds are tested, and 4,096 bytes at most were read ahead.
  abbrev pub ReadsTests : Reading S → Reading S → Result Tests Fault → Type 0
  ReadsTests before after (Ok tests) = ReadsListPart left faults ends before after (Ok tests.rounds.items)
  ReadsTests before after (Err why) =
      ((refusal : ListFault) × ReadsListPart left faults ends before after (Err refusal) × (why ≡ fault.List refusal))
      ⊎ ((rounds : List Round) × ReadsListPart left faults ends before after (Ok rounds) × (length after.ahead ≤ 4096)
      × LacksTables (tested_events rounds) (Err why))

  -- How a check ends that is handed them: what is read was held against the lines of their rounds, and it was told that
  -- all agrees; or as they were not got, and nothing more is read, and nothing written.
  abbrev pub EndsHolding : Reading S → Reading S → Settings → Result Tests Fault → Change → Result (Unit {0}) Fault → Type 0
  EndsHolding before after settings (Ok tests) out ended =
      (found : Result (Unit {0}) CheckFault)
      × ChecksSheet left faults ends before after (expected_lines settings tests.rounds.items) found
      × EndsTelling (result_map_both (λ done. done) fault_of_check found) (codes "agrees\n") out ended
  EndsHolding before after settings (Err why) out ended = (after ≡ before) × Stops why out ended
