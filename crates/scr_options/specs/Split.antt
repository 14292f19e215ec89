-- The values that the parser found.
use Rattle.std.specs.Prelude.{Option, Some, None, option_and_then}
use Rattle.clap.specs.Words.{first_value, matched_of}
use Rattle.clap.specs.declared.parser.matches.Found.{Found}
use Rattle.clap.specs.declared.parser.matches.ValueSource.{ValueSource}
use Rattle.clap.specs.declared.parser.matches.ValueSource.TheVariants.{CommandLine, DefaultValue}
use Rattle.scr_options.specs.OptionWords.{Text, Values}

-- a value that words gave, and not a flag's `false`, which stands where they don't
abbrev pub given : Option ValueSource → Option Text → Option Text
given None value = None
given (Some DefaultValue) value = None
given (Some CommandLine) value = value

abbrev pub found_values : Found → Values
found_values found name = given (option_and_then (λ a. a.source) (matched_of found name)) (first_value found name)
