-- What the words of the command line ask for.
use Rattle.std.specs.Prelude.{◌≡◌, ℕ, Bool, if◌then◌else◌, ◌||◌, ◌&&◌, not, true, false, List, [], ◌∷◌, codes, Some, Result, Ok, Err}
use Rattle.std.specs.Prelude.{ok_or, is_some, option_map}
use Rattle.std.specs.Option.{option_map_or}
use Rattle.std.specs.Result.{result_map_both}
use Rattle.std.specs.Str.{bytes_eq}
use Rattle.scr_words.specs.declared.seed.Seed.{Seed}
use Rattle.scr_words.specs.Seed.{seed_of}
use Rattle.scr_notation.specs.declared.event.Event.{Event}
use Rattle.scr_options.specs.OptionWords.{Text, Values, options_of}
use Rattle.scr_text.specs.Numbers.{number_between}
use Rattle.scr_text.specs.Steps.{and_then}
use Rattle.scr_notation.specs.Event.{net_side_of}
use Rattle.scr_list.specs.Events.{event_named}
use Rattle.scr_command.specs.declared.options.Options.{Options}
use Rattle.scr_command.specs.declared.command.Command.{Command}
use Rattle.scr_command.specs.declared.command.Command.TheVariants.{One, Sheet, Tables, Load, Net, Check}
use Rattle.scr_command.specs.declared.command.UsageFault.{UsageFault}
use Rattle.scr_command.specs.declared.command.UsageFault.TheVariants.{No444, NoSeed, Grammar}
use Rattle.scr_command.specs.declared.options.OptionName.TheVariants.{Workers, Tries, Attempts, Short}
use Rattle.scr_command.specs.OptionTable.{OptionRow, option_row, sheet_options, check_options}

-- ---- the numbers of a run

-- those of a sheet whose words say nothing of them
abbrev pub usual_options : Options
usual_options = record {
  workers = (option_row Workers).range.usual;
  tries = (option_row Tries).range.usual;
  attempts = (option_row Attempts).range.usual;
  short = (option_row Short).range.usual;
}

-- the number that an option sets in its range, or the usual one where the option isn't there
abbrev pub number_in : Values → OptionRow → Result ℕ UsageFault
number_in values row =
    ok_or (option_map_or (number_between row.range.least row.range.greatest) (values row.name) (Some row.range.usual)) Grammar

-- ---- what stands behind the name of a command

-- a command with the seed that a word is
abbrev pub seeded : (Seed → Command) → Text → Result Command UsageFault
seeded command word = result_map_both command NoSeed (seed_of word)

-- the event that a word names
abbrev pub event_for : Text → Result Event UsageFault
event_for word = if bytes_eq word (codes "444") then Err No444 else ok_or (event_named word) Grammar

-- `one EVENT SEED`, or `net EVENT SEED`, of an event that has nets
abbrev pub single_of : Bool → List Text → Result Command UsageFault
single_of nets (event ∷ seed ∷ []) =
    and_then (event_for event) (λ e.
    if nets && not (is_some (net_side_of e)) then Err Grammar else seeded (if nets then Net e else One e) seed)
single_of nets words = Err Grammar

-- `tables EVENT`
abbrev pub tables_of : List Text → Result Command UsageFault
tables_of (event ∷ []) = and_then (event_for event) (λ e. Ok (Tables e))
tables_of words = Err Grammar

-- `load NUMBER`, from 0 to 9,999
abbrev pub load_of : List Text → Result Command UsageFault
load_of (number ∷ []) = ok_or (option_map Load (number_between 0 9999 number)) Grammar
load_of words = Err Grammar

-- a command with options whose numbers were read: only where they are in their ranges can the seed alone be amiss
abbrev pub with_seed : Values → (Seed → Command) → Result Command UsageFault
with_seed values command = and_then (ok_or (values (codes "seed")) Grammar) (seeded command)

-- `sheet --seed HEX [--workers N] [--tries N] [--attempts N] [--short N]`, by the values of the options
abbrev pub sheet_of : Values → Result Command UsageFault
sheet_of values =
    and_then (number_in values (option_row Workers)) (λ workers.
    and_then (number_in values (option_row Tries)) (λ tries.
    and_then (number_in values (option_row Attempts)) (λ attempts.
    and_then (number_in values (option_row Short)) (λ short.
    with_seed values (λ s. Sheet s (record { workers = workers; tries = tries; attempts = attempts; short = short }))))))

-- `check --seed HEX [--attempts N]`
abbrev pub check_of : Values → Result Command UsageFault
check_of values = and_then (number_in values (option_row Attempts)) (λ attempts. with_seed values (λ seed. Check seed attempts))

-- ---- all commands

-- The command that the words are, or why they are none. Words that are a command but for the seed
-- are refused for the seed.
abbrev pub command_of : List Text → Result Command UsageFault
command_of [] = Err Grammar
command_of (command ∷ words) =
    if bytes_eq command (codes "sheet") then and_then (ok_or (options_of sheet_options words) Grammar) sheet_of
    else if bytes_eq command (codes "one") then single_of false words
    else if bytes_eq command (codes "tables") then tables_of words
    else if bytes_eq command (codes "load") then load_of words
    else if bytes_eq command (codes "net") then single_of true words
    else if bytes_eq command (codes "check") then and_then (ok_or (options_of check_options words) Grammar) check_of
    else Err Grammar

-- the words begin with `sheet` or with `check`: only these does a run split into options, for which it takes memory
abbrev pub HasOptions : List Text → Type 0
HasOptions [] = ⊥
HasOptions (command ∷ words) = (bytes_eq command (codes "sheet") || bytes_eq command (codes "check")) ≡ true
