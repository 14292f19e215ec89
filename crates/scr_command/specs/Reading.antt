-- What reading the words of the command line finds: a command that words can ask for, or why there is none.
use Rattle.std.specs.Prelude.{◌≡◌, ◌≤◌, List, Result, IsSome, Err, ok_or}
use Rattle.scr_notation.specs.Event.{net_side_of}
use Rattle.scr_options.specs.declared.splitting.OptionsFault.{OptionsFault}
use Rattle.scr_options.specs.declared.splitting.OptionsFault.TheVariants as split
use Rattle.scr_options.specs.OptionWords.{Form, Text, Values, options_of}
use Rattle.scr_text.specs.Steps.{and_then}
use Rattle.scr_command.specs.declared.options.Options.{Options}
use Rattle.scr_command.specs.declared.command.Command.{Command}
use Rattle.scr_command.specs.declared.command.Command.TheVariants.{One, Sheet, Tables, Load, Net, Check}
use Rattle.scr_command.specs.declared.command.UsageFault.{UsageFault}
use Rattle.scr_command.specs.declared.command.UsageFault.TheVariants.{Grammar}
use Rattle.scr_command.specs.declared.command.CommandFault.{CommandFault}
use Rattle.scr_command.specs.declared.command.CommandFault.TheVariants as refusal
use Rattle.scr_command.specs.declared.options.OptionName.TheVariants.{Workers, Tries, Attempts, Short}
use Rattle.scr_command.specs.OptionTable.{option_row, IsSettable}
use Rattle.scr_command.specs.Command.{command_of, HasOptions}

-- numbers that words can set
pub record AreOptions (options : Options) : Type 0 where
  pub workers : IsSettable (option_row Workers).range options.workers
  pub tries : IsSettable (option_row Tries).range options.tries
  pub attempts : IsSettable (option_row Attempts).range options.attempts
  pub short : IsSettable (option_row Short).range options.short

-- a command that words can ask for: its numbers are in their ranges, and a net is that of a cube
abbrev pub IsCommand : Command → Type 0
IsCommand (One event seed) = Unit {0}
IsCommand (Sheet seed options) = AreOptions options
IsCommand (Tables event) = Unit {0}
IsCommand (Load number) = number ≤ 9999
IsCommand (Net event seed) = IsSome (net_side_of event)
IsCommand (Check seed attempts) = IsSettable (option_row Attempts).range attempts

-- why no command was read: the words are none, or memory was wanting
abbrev pub IsRefusal : List Text → CommandFault → Type 0
IsRefusal words (refusal.Usage usage) = command_of words ≡ Err usage
IsRefusal words refusal.NoMemory = HasOptions words

-- the same, for the words after a command with options
abbrev pub IsOptionsRefusal : (Values → Result Command UsageFault) → List Form → List Text → CommandFault → Type 0
IsOptionsRefusal command_of_values forms words (refusal.Usage usage) =
    and_then (ok_or (options_of forms words) Grammar) command_of_values ≡ Err usage
IsOptionsRefusal command_of_values forms words refusal.NoMemory = Unit {0}

-- why words were not split, as a fault of the command
abbrev pub fault_of_options : OptionsFault → CommandFault
fault_of_options split.Usage = refusal.Usage Grammar
fault_of_options split.NoMemory = refusal.NoMemory
