-- What goes wrong in a part of a run, as the fault of the run.
use Rattle.scr_check.specs.declared.fault.CheckFault.{CheckFault}
use Rattle.scr_check.specs.declared.fault.CheckFault.TheVariants as check
use Rattle.scr_command.specs.declared.command.CommandFault.{CommandFault}
use Rattle.scr_command.specs.declared.command.CommandFault.TheVariants as refusal
use Rattle.scr_list.specs.declared.fault.ListFault.TheVariants as list
use Rattle.scr_table.specs.declared.fault.BuildFault.{BuildFault}
use Rattle.scr_table.specs.declared.fault.BuildFault.TheVariants as build
use Rattle.scr_fault.specs.declared.fault.Fault.{Fault}
use Rattle.scr_fault.specs.declared.fault.Fault.TheVariants as fault
use Rattle.scr_fault.specs.declared.fault.MakeFault.{MakeFault}
use Rattle.scr_fault.specs.declared.fault.MakeFault.TheVariants as make

-- why no command was read
abbrev pub fault_of_command : CommandFault → Fault
fault_of_command (refusal.Usage usage) = fault.Usage usage
fault_of_command refusal.NoMemory = fault.NoMemory

-- why tables could not be built
abbrev pub fault_of_build : BuildFault → Fault
fault_of_build build.NoMemory = fault.NoMemory
fault_of_build (build.Gap table index) = fault.Gap table index

-- why scrambles were not made and written
abbrev pub fault_of_make : MakeFault → Fault
fault_of_make (make.DrawLimit missing) = fault.DrawLimit missing
fault_of_make make.Write = fault.Write

-- what a check found, as a fault of the run
abbrev pub fault_of_check : CheckFault → Fault
fault_of_check (check.Differs line) = fault.Differs line
fault_of_check (check.Limit missing) = fault.DrawLimit missing
fault_of_check check.Read = fault.List list.Read
