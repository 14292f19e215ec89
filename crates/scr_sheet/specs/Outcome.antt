-- How a run may end.
use Rattle.std.specs.Prelude.{◌≡◌, ◌+◌, ◌*◌, ◌⊎◌, ℕ, List, [], ◌∷◌, ◌++◌, length, map, sum, sum_by, codes, All, Some, None, Result, Ok, Err}
use Rattle.scr_outside.specs.Change.{Change, change_of, IsUnchanged, Gains, Falters}
use Rattle.scr_check.specs.declared.fault.Missing.{Missing}
use Rattle.scr_list.specs.Reading.{ReadsList, ReadsNoList}
use Rattle.scr_notation.specs.declared.event.Event.{Event}
use Rattle.scr_notation.specs.Event.{net_side_of}
use Rattle.scr_list.specs.declared.round.Round.{Round}
use Rattle.scr_list.specs.declared.fault.ListFault.{ListFault}
use Rattle.scr_command.specs.declared.command.Command.{Command}
use Rattle.scr_command.specs.declared.command.Command.TheVariants.{One, Sheet, Tables, Load, Net, Check}
use Rattle.scr_command.specs.declared.command.UsageFault.{UsageFault}
use Rattle.scr_command.specs.Command.{usual_options, command_of, HasOptions}
use Rattle.scr_round.specs.Round.{slots_of}
use Rattle.scr_slots.specs.declared.settings.Settings.{Settings}
use Rattle.scr_slots.specs.Slots.{IsDrawnFairly}
use Rattle.scr_slots.specs.Events.{scrambling_of}
use Rattle.scr_slots.specs.Tables.{HasTables, tables_for}
use Rattle.scr_fault.specs.declared.fault.Fault.{Fault}
use Rattle.scr_fault.specs.declared.fault.Fault.TheVariants as fault
use Rattle.scr_fault.specs.declared.status.Status.{Status}
use Rattle.scr_sheet.specs.Sheet.{settings_of, IsFirstWithout, Part, round_parts, single_part, IsPartText, IsText}
use Rattle.scr_sheet.specs.Load.{load_seed, load_rounds, load_text}
use Rattle.scr_table_text.specs.TableText.{IsTablesText}
use Rattle.scr_fault.specs.Message.{message_of}
use Rattle.scr_fault.specs.Status.{status_of}
use Rattle.scr_sheet.specs.Causes.{LacksTables}
use Rattle.scr_sheet.specs.Check.{EndsChecking, check_settings}

-- nothing was written
abbrev pub IsUnwritten : Change → Type 0
IsUnwritten out = Gains out []

-- ---- the one table of outcomes, over the parts that a command writes; the first of them is part k

-- Some leading parts have their scrambles, and it is so of their text; and so of how many they are and of the parts
-- behind.
pub record IsLed (settings : Settings) (parts : List Part) (Is : List ℕ → Type 0) (Leaves : ℕ → List Part → Type 0) : Type 0 where
  pub led : List Part
  pub rest : List Part
  pub are : parts ≡ led ++ rest
  pub text : List ℕ
  pub has : IsText (IsPartText settings) led text
  pub is : Is text
  pub leaves : Leaves (length led) rest

-- The first of these parts, which is part k, has a slot without a scramble, and this is told of it: the part's number
-- and the slot's, from 1, and how many words its attempts took.
abbrev pub IsStopped : Settings → Missing → ℕ → List Part → Type 0
IsStopped settings missing k [] = ⊥
IsStopped settings missing k (failing ∷ rest) =
    (j : ℕ) × (missing ≡ record { round = k + 1; slot = j + 1; words = 3 * settings.attempts }) × IsFirstWithout settings failing j

-- How the parts end that are made and written one after another. All were written. Or a slot has no scramble: those
-- before its part were written. Or the output failed: a first part was written of the text of some leading parts.
-- Memory is never wanting here: it was taken before, by what saw no seed.
abbrev pub EndsParts : Settings → ℕ → List Part → Change → Result (Unit {0}) Fault → Type 0
EndsParts settings k parts out (Ok _) = IsLed settings parts (Gains out) (λ led rest. rest ≡ [])
EndsParts settings k parts out (Err (fault.DrawLimit missing)) =
    IsLed settings parts (Gains out) (λ led. IsStopped settings missing (k + led))
EndsParts settings k parts out (Err fault.Write) = IsLed settings parts (Falters out) (λ led rest. Unit {0})
EndsParts settings k parts out (Err _) = ⊥

-- ---- the commands

-- it ends for this, and nothing was written
abbrev pub Stops : Fault → Change → Result (Unit {0}) Fault → Type 0
Stops why out ended = (ended ≡ Err why) × IsUnwritten out

-- How the making and writing of parts ends, for which tables are built and memory is taken first. There they are, so
-- that each part is drawn fairly (of random moves: each of their steps is), and so end the parts; or they could not be
-- had.
abbrev pub EndsMaking : Settings → List Part → Change → Result (Unit {0}) Fault → Type 0
EndsMaking settings parts out ended =
    (All (λ part. IsDrawnFairly (scrambling_of part.event) part.least) parts × EndsParts settings 0 parts out ended)
    ⊎ ((LacksTables (map (λ part. part.event) parts) ended ⊎ (ended ≡ Err fault.NoMemory)) × IsUnwritten out)

-- a sink that gained this text, and did not fail
abbrev pub gaining : List ℕ → Change
gaining text = change_of Some (λ held. 0) [] text

-- How it ends that a text is written, where what comes before ended so: it is written where that went well.
abbrev pub EndsTelling : Result (Unit {0}) Fault → List ℕ → Change → Result (Unit {0}) Fault → Type 0
EndsTelling (Ok _) lines out (Ok _) = Gains out lines
EndsTelling (Ok _) lines out (Err why) = (why ≡ fault.Write) × Falters out lines
EndsTelling (Err why) lines out ended = Stops why out ended

-- the text of an event's tables is written
abbrev pub EndsTables : Event → Change → Result (Unit {0}) Fault → Type 0
EndsTables event out ended =
    (text : List ℕ) × IsTablesText (tables_for (event ∷ [])) text × EndsTelling (Ok tt) text out ended

-- A sheet is made as for a sink that takes all of it, and is not written; it is told what it amounts to.
pub record EndsLoad (number : ℕ) (out : Change) (ended : Result (Unit {0}) Fault) : Type 0 where
  pub sheet : List ℕ
  pub made : Result (Unit {0}) Fault
  pub making : EndsMaking (settings_of (load_seed number) usual_options) (round_parts 0 (load_rounds number)) (gaining sheet) made
  pub told : EndsTelling made
      (load_text (length (load_rounds number)) (sum_by slots_of (load_rounds number)) (length sheet) (sum sheet))
      out ended

-- How a run ends on words that are this command, or that are none. `sheet` reads its list to the end of input before it
-- writes; or the input is no round list, or could not be read. Where all agrees that `check` reads, it is said so.
abbrev pub Ends : Result Command UsageFault → Change → Change → Result (Unit {0}) Fault → Type 0
Ends (Ok (One event seed)) source out ended =
    IsUnchanged source × EndsMaking (settings_of seed usual_options) (single_part event None ∷ []) out ended
Ends (Ok (Sheet seed options)) source out ended =
    ((rounds : List Round) × ReadsList source (Ok rounds)
    × EndsMaking (settings_of seed options) (round_parts 0 rounds) out ended)
    ⊎ ((list : ListFault) × ReadsNoList source list × Stops (fault.List list) out ended)
Ends (Ok (Tables event)) source out ended =
    IsUnchanged source × (EndsTables event out ended ⊎ (LacksTables (event ∷ []) ended × IsUnwritten out))
Ends (Ok (Load number)) source out ended = IsUnchanged source × EndsLoad number out ended
Ends (Ok (Net event seed)) source out ended =
    IsUnchanged source × EndsMaking (settings_of seed usual_options) (single_part event (net_side_of event) ∷ []) out ended
Ends (Ok (Check seed attempts)) source out ended =
    (answer : Result (Unit {0}) Fault) × EndsChecking (check_settings seed attempts) source answer
    × EndsTelling answer (codes "agrees\n") out ended
Ends (Err usage) source out ended = IsUnchanged source × Stops (fault.Usage usage) out ended

-- ---- a whole run

-- what the words ask for, once they are read, takes memory: it needs the tables of its event, or makes rounds
abbrev pub TakesMemory : Result Command UsageFault → Type 0
TakesMemory (Ok (One event seed)) = HasTables event
TakesMemory (Ok (Tables event)) = HasTables event
TakesMemory (Ok (Net event seed)) = HasTables event
TakesMemory (Ok command) = Unit {0}
TakesMemory (Err usage) = ⊥

-- What a run on these words does before it tells how it ended; or memory was wanting before anything was read or
-- written. Only words that begin with `sheet` or `check`, and what needs tables or makes rounds, take memory.
pub record IsPerformed (words : List (List ℕ)) (source out : Change) (ended : Result (Unit {0}) Fault) : Type 0 where
  pub ends : Ends (command_of words) source out ended ⊎ (IsUnchanged source × Stops fault.NoMemory out ended)
  pub memory : ended ≡ Err fault.NoMemory → HasOptions words ⊎ TakesMemory (command_of words)

-- what went wrong is told by its message, or by a first part of it where that could not be written
abbrev pub Tells : Change → Result (Unit {0}) Fault → Type 0
Tells err (Ok _) = IsUnwritten err
Tells err (Err fault) = Gains err (message_of fault) ⊎ Falters err (message_of fault)

-- What a run did: how it ended, the status that this has, and what was told of it.
pub record IsRun (words : List (List ℕ)) (outcome : Status) (source out err : Change) : Type 0 where
  pub ended : Result (Unit {0}) Fault
  pub performed : IsPerformed words source out ended
  pub answer : outcome ≡ status_of ended
  pub tells : Tells err ended
