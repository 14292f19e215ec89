-- How a program ends, on the words of its command line or where it has none, over what its own definitions say of a run.
use Rattle.std.specs.Prelude.{ℕ, ◌≡◌, ◌⊎◌, List, Result, Ok, Err}
use Rattle.scr_outside.specs.Change.{Change, IsUnchanged, Gains, Falters}
use Rattle.scr_host.specs.declared.words.NoWords.{NoWords}
use Rattle.scr_host.specs.declared.words.NoWords.TheVariants as without

-- a text was written on an error output, or a first part of it, where that failed
abbrev pub IsTold : List ℕ → Change → Type 0
IsTold text err = Gains err text ⊎ Falters err text

-- ---- a run on words

-- A run on these words ended in some way, whose exit code is this. Which ways those are, by the words and by what was
-- done to the source, the output and the error output, the program's definitions say, and the code of each.
pub record RunsWithCode {Way : Type 0} (IsRun : List (List ℕ) → Way → Change → Change → Change → Type 0) (code_of : Way → ℕ) (words : List (List ℕ)) (code : ℕ) (source out err : Change) : Type 0 where
  pub outcome : Way
  pub run : IsRun words outcome source out err
  pub code_is : code ≡ code_of outcome

-- ---- without words

-- the exit code where there are no words: the program's own for want of memory, or 1
abbrev pub code_without_words : ℕ → NoWords → ℕ
code_without_words memory without.NoMemory = memory
code_without_words memory without.NotGiven = 1

-- what is told there: this message, where memory was wanting, or nothing
abbrev pub TellsWithoutWords : List ℕ → NoWords → Change → Type 0
TellsWithoutWords message without.NoMemory err = IsTold message err
TellsWithoutWords message without.NotGiven err = IsUnchanged err

-- There were no words: nothing was read, nothing was written but what is told, and the exit code is this.
pub record IsWithoutWords (memory : ℕ) (message : List ℕ) (why : NoWords) (code : ℕ) (source out err : Change) : Type 0 where
  pub unread : IsUnchanged source
  pub unwritten : IsUnchanged out
  pub tells : TellsWithoutWords message why err
  pub code_is : code ≡ code_without_words memory why

-- ---- either

-- A program ended with this exit code, on these words as its runs may, or for want of words. It has its own code and its
-- own message for want of memory.
abbrev pub EndsProgram : (List (List ℕ) → ℕ → Change → Change → Change → Type 0) → ℕ → List ℕ
    → Result (List (List ℕ)) NoWords → ℕ → Change → Change → Change → Type 0
EndsProgram Runs memory message (Ok words) code source out err = Runs words code source out err
EndsProgram Runs memory message (Err why) code source out err = IsWithoutWords memory message why code source out err

-- It did so over some streams. (The system's tell no bytes.)
pub record EndsOnStreams (Ends : Result (List (List ℕ)) NoWords → ℕ → Change → Change → Change → Type 0) (words : Result (List (List ℕ)) NoWords) (code : ℕ) : Type 0 where
  pub source : Change
  pub out : Change
  pub err : Change
  pub ends : Ends words code source out err

-- The program may end with this exit code: it does so on some words, or for want of them. (The system tells no clause
-- which words it gives.)
abbrev pub IsExitCode : (Result (List (List ℕ)) NoWords → ℕ → Change → Change → Change → Type 0) → ℕ → Type 0
IsExitCode Ends code = (words : Result (List (List ℕ)) NoWords) × EndsOnStreams Ends words code
