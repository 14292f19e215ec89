use Rattle.std.proofs.Common.{refl, ap}
use Rattle.std.specs.Result.{result_map_both}
use Rattle.scr_command.specs.declared.command.Command.TheVariants.{Sheet}
use Rattle.scr_command.specs.declared.command.UsageFault.TheVariants.{NoSeed}
use Rattle.scr_options.specs.OptionWords.{options_read}
use Rattle.scr_text.specs.Numbers.{number_between, number_of_text}
use Rattle.scr_laws.proofs.command.numbers_of_a_sheet.Goals as goal

pub returns-clause-usual : goal.returns-clause-usual
unfolding options_read
returns-clause-usual c = λ digits seed is. ap (result_map_both (λ s. Sheet s (record { workers = 1; tries = 2000; attempts = 1000; short = 1 })) NoSeed) is

pub returns-clause-least : goal.returns-clause-least
unfolding options_read number_between number_of_text
returns-clause-least c = λ digits seed is. ap (result_map_both (λ s. Sheet s (record { workers = 1; tries = 0; attempts = 1; short = 1 })) NoSeed) is

pub returns-clause-greatest : goal.returns-clause-greatest
unfolding options_read number_between number_of_text
returns-clause-greatest c = λ digits seed is. ap (result_map_both (λ s. Sheet s (record { workers = 64; tries = 100000; attempts = 1000000; short = 1000 })) NoSeed) is

pub returns-clause-workers : goal.returns-clause-workers
unfolding options_read number_between number_of_text
returns-clause-workers c = (λ digits. refl, λ digits. refl)

pub returns-clause-tries : goal.returns-clause-tries
unfolding options_read number_between number_of_text
returns-clause-tries c = λ digits. refl

pub returns-clause-attempts : goal.returns-clause-attempts
unfolding options_read number_between number_of_text
returns-clause-attempts c = (λ digits. refl, λ digits. refl)

pub returns-clause-short : goal.returns-clause-short
unfolding options_read number_between number_of_text
returns-clause-short c = (λ digits. refl, λ digits. refl)
