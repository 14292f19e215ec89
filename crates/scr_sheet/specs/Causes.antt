-- Why a run ends, where the tables of its events could not be built.
use Rattle.std.specs.Prelude.{◌≡◌, List, Result, Err}
use Rattle.scr_notation.specs.declared.event.Event.{Event}
use Rattle.scr_table.specs.declared.fault.BuildFault.{BuildFault}
use Rattle.scr_slots.specs.Tables.{IsBuildCause}
use Rattle.scr_fault.specs.declared.fault.Fault.{Fault}
use Rattle.scr_fault.specs.Faults.{fault_of_build}

-- it ends since the tables of these events could not be built: one of them has a gap, or memory was wanting
abbrev pub LacksTables : List Event → Result (Unit {0}) Fault → Type 0
LacksTables events ended = (why : BuildFault) × IsBuildCause events why × (ended ≡ Err (fault_of_build why))
