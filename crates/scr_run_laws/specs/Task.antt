-- What a command is to make and write, and which runs nothing hinders.
use Rattle.std.specs.Prelude.{◌≡◌, ◌⊎◌, ℕ, Some, None, List, [], ◌∷◌, ◌++◌, Ok}
use Rattle.scr_outside.specs.Change.{Change}
use Rattle.scr_outside.specs.Faults.{Rose}
use Rattle.scr_notation.specs.Event.{net_side_of}
use Rattle.scr_list.specs.declared.round.Round.{Round}
use Rattle.scr_list.specs.Rounds.{rounds_of}
use Rattle.scr_command.specs.declared.command.Command.{Command}
use Rattle.scr_command.specs.declared.command.Command.TheVariants.{One, Sheet, Tables, Load, Net, Check}
use Rattle.scr_command.specs.Command.{usual_options, command_of}
use Rattle.scr_slots.specs.declared.settings.Settings.{Settings}
use Rattle.scr_fault.specs.declared.status.Status.{Status}
use Rattle.scr_fault.specs.declared.status.Status.TheVariants as status
use Rattle.scr_sheet.specs.Sheet.{settings_of, Part, round_parts, single_part, IsFirstWithout}
use Rattle.scr_sheet.specs.Load.{load_seed, load_rounds}
use Rattle.scr_sheet.specs.Check.{check_settings}
use Rattle.scr_sheet.specs.Outcome.{IsRun}
use Rattle.scr_words.specs.declared.seed.Seed.{Seed}

-- what a command makes, and writes or sums; only `sheet` asks what its source holds, `tables` makes no parts, and a
-- check is no such task
abbrev pub IsTask : Command → Change → Settings → List Part → Type 0
IsTask (One event seed) source settings parts = (settings ≡ settings_of seed usual_options) × (parts ≡ single_part event None ∷ [])
IsTask (Sheet seed options) source settings parts =
    (list : List ℕ) × (rounds : List Round) × (source.bytes_before ≡ Some list) × (rounds_of list ≡ Ok rounds)
    × (settings ≡ settings_of seed options) × (parts ≡ round_parts 0 rounds)
IsTask (Tables event) source settings parts = parts ≡ []
IsTask (Load number) source settings parts =
    (settings ≡ settings_of (load_seed number) usual_options) × (parts ≡ round_parts 0 (load_rounds number))
IsTask (Net event seed) source settings parts = (settings ≡ settings_of seed usual_options) × (parts ≡ single_part event (net_side_of event) ∷ [])
IsTask (Check seed attempts) source settings parts = ⊥

-- A run whose words are a command with this task; neither input nor output failed.
pub record IsUnhindered (words : List (List ℕ)) (outcome : Status) (source out err : Change) (settings : Settings) (parts : List Part) : Type 0 where
  pub run : IsRun words outcome source out err
  pub command : Command
  pub asks : command_of words ≡ Ok command
  pub task : IsTask command source settings parts
  pub read : ¬ (Rose source.faults_before source.faults_after)
  pub written : ¬ (Rose out.faults_before out.faults_after)

-- A run whose words are a check with these settings, of this input; neither input nor output failed.
pub record IsUnhinderedCheck (words : List (List ℕ)) (outcome : Status) (source out err : Change) (settings : Settings) (input : List ℕ) : Type 0 where
  pub run : IsRun words outcome source out err
  pub seed : Seed
  pub attempts : ℕ
  pub asks : command_of words ≡ Ok (Check seed attempts)
  pub is : settings ≡ check_settings seed attempts
  pub told : source.bytes_before ≡ Some input
  pub read : ¬ (Rose source.faults_before source.faults_after)
  pub written : ¬ (Rose out.faults_before out.faults_after)

-- the same command, with another seed where it has one
abbrev pub with_seed : Seed → Command → Command
with_seed seed (One event other) = One event seed
with_seed seed (Sheet other options) = Sheet seed options
with_seed seed (Tables event) = Tables event
with_seed seed (Load number) = Load number
with_seed seed (Net event other) = Net event seed
with_seed seed (Check other attempts) = Check seed attempts

-- some slot of these parts has no scramble
pub record LacksScramble (settings : Settings) (parts : List Part) : Type 0 where
  pub led : List Part
  pub part : Part
  pub rest : List Part
  pub are : parts ≡ led ++ part ∷ rest
  pub slot : ℕ
  pub first : IsFirstWithout settings part slot

-- a run ended with this status, or wanted memory, or a table had a gap
abbrev pub EndsWith : Status → Status → Type 0
EndsWith outcome wanted = (outcome ≡ wanted) ⊎ ((outcome ≡ status.NoMemory) ⊎ (outcome ≡ status.Gap))
