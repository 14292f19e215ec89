-- Words after `sheet` or `check` and a seed: which numbers they set, or that they are no command.
use Rattle.std.specs.Prelude.{◌≡◌, ℕ, List, ◌∷◌, ◌++◌, codes, Ok, Err}
use Rattle.scr_options.specs.OptionWords.{Text}
use Rattle.scr_words.specs.declared.seed.Seed.{Seed}
use Rattle.scr_words.specs.Seed.{seed_of}
use Rattle.scr_command.specs.declared.options.Options.{Options}
use Rattle.scr_command.specs.declared.command.Command.{Command}
use Rattle.scr_command.specs.declared.command.Command.TheVariants.{Sheet, Check}
use Rattle.scr_command.specs.declared.command.UsageFault.TheVariants.{Grammar}
use Rattle.scr_command.specs.Command.{command_of}

-- the command of this name with these digits of a seed and these words
abbrev pub words_with_seed : Text → Text → List Text → List Text
words_with_seed name digits words = name ∷ (codes "--seed=" ++ digits) ∷ words

-- whatever the seed is, the words behind it ask for this of it
abbrev pub AskFor : Text → List Text → (Seed → Command) → Type 0
AskFor name words command =
    (digits : Text) (seed : Seed) → seed_of digits ≡ Ok seed
    → command_of (words_with_seed name digits words) ≡ Ok (command seed)

-- whatever stands where the seed does, the words are no command
abbrev pub AskForNothing : Text → List Text → Type 0
AskForNothing name words = (digits : Text) → command_of (words_with_seed name digits words) ≡ Err Grammar

-- of the command `sheet`: the words set these numbers, or they are no command
abbrev pub Sets : List Text → Options → Type 0
Sets words options = AskFor (codes "sheet") words (λ seed. Sheet seed options)

abbrev pub AreRefused : List Text → Type 0
AreRefused = AskForNothing (codes "sheet")

-- the same of the command `check`, which sets its attempts alone
abbrev pub SetsAttempts : List Text → ℕ → Type 0
SetsAttempts words attempts = AskFor (codes "check") words (λ seed. Check seed attempts)

abbrev pub AreNoCheck : List Text → Type 0
AreNoCheck = AskForNothing (codes "check")
