-- How runs end: the status of each end, and the exit code of each status.
use Rattle.std.specs.Prelude.{ℕ, Result, Ok, Err}
use Rattle.scr_list.specs.declared.fault.ListFault.TheVariants as list
use Rattle.scr_fault.specs.declared.fault.Fault.{Fault}
use Rattle.scr_fault.specs.declared.fault.Fault.TheVariants as fault
use Rattle.scr_fault.specs.declared.status.Status.{Status}
use Rattle.scr_fault.specs.declared.status.Status.TheVariants as status

-- the status of each end
abbrev pub status_of : Result (Unit {0}) Fault → Status
status_of (Ok _) = status.Done
status_of (Err (fault.Usage usage)) = status.Usage
status_of (Err (fault.List list.Read)) = status.ReadFault
status_of (Err (fault.List list)) = status.List
status_of (Err (fault.DrawLimit missing)) = status.DrawLimit
status_of (Err fault.Write) = status.WriteFault
status_of (Err fault.NoMemory) = status.NoMemory
status_of (Err (fault.Gap table index)) = status.Gap
status_of (Err (fault.Differs line)) = status.Differs

-- the exit code of each status
abbrev pub code_of : Status → ℕ
code_of status.Done = 0
code_of status.Usage = 2
code_of status.List = 3
code_of status.DrawLimit = 4
code_of status.ReadFault = 5
code_of status.WriteFault = 6
code_of status.NoMemory = 7
code_of status.Gap = 8
code_of status.Differs = 9
