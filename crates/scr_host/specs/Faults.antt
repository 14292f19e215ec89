-- What goes wrong in a run of a program that reads one input: the line that tells it, and the exit code.
use Rattle.std.specs.Prelude.{ℕ, List, ◌++◌, codes}
use Rattle.scr_host.specs.declared.fault.Fault.{Fault}
use Rattle.scr_host.specs.declared.fault.Fault.TheVariants as fault

-- How a program tells what goes wrong in it: its name, which words it takes, and of each fault of its own what a message
-- says of it, and the exit code of a run that ended with it.
pub record Telling (Own : Type 0) : Type 0 where
  pub program : List ℕ
  pub usage : List ℕ
  pub text : Own → List ℕ
  pub code : Own → ℕ

-- what a message says of a fault
abbrev pub fault_text : {Own : Type 0} → Telling Own → Fault Own → List ℕ
fault_text telling fault.Usage = codes "usage: " ++ telling.usage
fault_text telling fault.TooLong = codes "input is longer than 67108864 bytes"
fault_text telling fault.Read = codes "input could not be read"
fault_text telling (fault.Own why) = telling.text why
fault_text telling fault.Write = codes "output could not be written"
fault_text telling fault.NoMemory = codes "out of memory"

-- the line that the program writes for it
abbrev pub message_of : {Own : Type 0} → Telling Own → Fault Own → List ℕ
message_of telling why = telling.program ++ codes ": " ++ fault_text telling why ++ codes "\n"

-- the exit code of a run that ended with it: those that `scramble` has
abbrev pub code_of : {Own : Type 0} → Telling Own → Fault Own → ℕ
code_of telling fault.Usage = 2
code_of telling fault.TooLong = 3
code_of telling fault.Read = 5
code_of telling (fault.Own why) = telling.code why
code_of telling fault.Write = 6
code_of telling fault.NoMemory = 7

-- it is one of the program's own, for which this holds, or want of memory
abbrev pub IsOwn : {Own : Type 0} → (Own → Type 0) → Fault Own → Type 0
IsOwn Is (fault.Own why) = Is why
IsOwn Is fault.NoMemory = Unit {0}
IsOwn Is other = ⊥
