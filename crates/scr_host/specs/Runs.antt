-- What a program does that reads one input, over what its own definitions say of a run.
use Rattle.std.specs.Prelude.{ℕ, ◌≡◌, List, Result, Ok, Err, string_bytes}
use Rattle.std.specs.declared.string.String.{String}
use Rattle.std.specs.declared.alloc.Global.{Global}
use Rattle.std.specs.Result.{result_map_both}
use Rattle.scr_outside.specs.Change.{Change}
use Rattle.scr_host.specs.declared.words.NoWords.{NoWords}
use Rattle.scr_host.specs.declared.fault.Fault.{Fault}
use Rattle.scr_host.specs.declared.fault.Fault.TheVariants as fault
use Rattle.scr_host.specs.Faults.{Telling, message_of, code_of}
use Rattle.scr_host.specs.Exit.{IsTold, RunsWithCode, EndsProgram}

-- ---- how it ends: with what is to be told where all went well, or with what went wrong

-- as code gives it
abbrev pub told_text : {Own : Type 0} → Result (String Global) (Fault Own) → Result (List ℕ) (Fault Own)
told_text = result_map_both (λ told. string_bytes told) (λ why. why)

-- without what is told
abbrev pub outcome_of : {X Own : Type 0} → Result X (Fault Own) → Result (Unit {0}) (Fault Own)
outcome_of = result_map_both (λ _. tt) (λ why. why)

-- what is told of it
abbrev pub told_of : {Own : Type 0} → Telling Own → Result (List ℕ) (Fault Own) → List ℕ
told_of telling (Ok told) = told
told_of telling (Err why) = message_of telling why

-- its exit code
abbrev pub exit_code_of : {X Own : Type 0} → Telling Own → Result X (Fault Own) → ℕ
exit_code_of telling (Ok _) = 0
exit_code_of telling (Err why) = code_of telling why

-- ---- a whole run

-- What a run did: how it ended, which the program's definitions say by its words and by what was done to the source and
-- the output, and what was told of it, or a first part of that where it could not be written.
pub record IsRun {Own : Type 0} (Ends : List (List ℕ) → Change → Change → Result (List ℕ) (Fault Own) → Type 0) (telling : Telling Own) (words : List (List ℕ)) (outcome : Result (Unit {0}) (Fault Own)) (source out err : Change) : Type 0 where
  pub ended : Result (List ℕ) (Fault Own)
  pub ends : Ends words source out ended
  pub answer : outcome ≡ outcome_of ended
  pub tells : IsTold (told_of telling ended) err

-- The program ended with this exit code: that of a run on these words, or that for want of them.
unfoldable pub EndsRun : {Own : Type 0} → (List (List ℕ) → Change → Change → Result (List ℕ) (Fault Own) → Type 0) → Telling Own
    → Result (List (List ℕ)) NoWords → ℕ → Change → Change → Change → Type 0
EndsRun Ends telling =
    EndsProgram (RunsWithCode (IsRun Ends telling) (exit_code_of telling)) (code_of telling fault.NoMemory) (message_of telling fault.NoMemory)
