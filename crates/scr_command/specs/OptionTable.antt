-- The options of commands, each of which has a value: the seed, and those that set numbers, which have a row each.
use Rattle.std.specs.Prelude.{◌≤◌, ℕ, List, [], ◌∷◌, map, codes}
use Rattle.scr_options.specs.OptionWords.{Form, Text, valued}
use Rattle.scr_command.specs.declared.options.OptionName.{OptionName}
use Rattle.scr_command.specs.declared.options.OptionName.TheVariants.{Workers, Tries, Attempts, Short}
use Rattle.scr_command.specs.declared.options.Range.{Range}

-- an option that sets a number: its name, and the numbers that it may set
pub record OptionRow : Type 0 where
  pub name : Text
  pub range : Range

abbrev pub option_row : OptionName → OptionRow
option_row Workers = record { name = codes "workers"; range = record { least = 1; greatest = 64; usual = 1 } }
option_row Tries = record { name = codes "tries"; range = record { least = 0; greatest = 100000; usual = 2000 } }
option_row Attempts = record { name = codes "attempts"; range = record { least = 1; greatest = 1000000; usual = 1000 } }
option_row Short = record { name = codes "short"; range = record { least = 1; greatest = 1000; usual = 1 } }

-- the seed, and these
abbrev pub options_with : List OptionName → List Form
options_with options = map valued (codes "seed" ∷ map (λ option. (option_row option).name) options)

-- the options of the command `sheet`, and those of `check`
abbrev pub sheet_options : List Form
sheet_options = options_with (Workers ∷ Tries ∷ Attempts ∷ Short ∷ [])

abbrev pub check_options : List Form
check_options = options_with (Attempts ∷ [])

-- a number that an option may set
abbrev pub IsSettable : Range → ℕ → Type 0
IsSettable range number = (range.least ≤ number) × (number ≤ range.greatest)
