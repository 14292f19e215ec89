-- What the program ends with, on the words of its command line or where it has none.
use Rattle.std.specs.Prelude.{ℕ, List, Result}
use Rattle.scr_outside.specs.Change.{Change}
use Rattle.scr_host.specs.declared.words.NoWords.{NoWords}
use Rattle.scr_host.specs.Exit.{RunsWithCode, EndsProgram}
use Rattle.scr_fault.specs.declared.fault.Fault.TheVariants as fault
use Rattle.scr_fault.specs.declared.status.Status.TheVariants as status
use Rattle.scr_fault.specs.Status.{code_of}
use Rattle.scr_fault.specs.Message.{message_of}
use Rattle.scr_sheet.specs.Outcome.{IsRun}

-- the program ended with this exit code: that of a run on these words, or that for want of them
abbrev pub EndsScramble : Result (List (List ℕ)) NoWords → ℕ → Change → Change → Change → Type 0
EndsScramble = EndsProgram (RunsWithCode IsRun code_of) (code_of status.NoMemory) (message_of fault.NoMemory)
