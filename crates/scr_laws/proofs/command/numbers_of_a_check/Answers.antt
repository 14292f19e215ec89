use Rattle.std.proofs.Common.{refl, ap}
use Rattle.std.specs.Result.{result_map_both}
use Rattle.scr_command.specs.declared.command.Command.TheVariants.{Check}
use Rattle.scr_command.specs.declared.command.UsageFault.TheVariants.{NoSeed}
use Rattle.scr_options.specs.OptionWords.{options_read}
use Rattle.scr_text.specs.Numbers.{number_between, number_of_text}
use Rattle.scr_laws.proofs.command.numbers_of_a_check.Goals as goal

pub returns-clause-usual : goal.returns-clause-usual
unfolding options_read
returns-clause-usual c = λ digits seed is. ap (result_map_both (λ s. Check s 1000) NoSeed) is

pub returns-clause-greatest : goal.returns-clause-greatest
unfolding options_read number_between number_of_text
returns-clause-greatest c = λ digits seed is. ap (result_map_both (λ s. Check s 1000000) NoSeed) is

pub returns-clause-others : goal.returns-clause-others
unfolding options_read number_between number_of_text
returns-clause-others c = (λ digits. refl, λ digits. refl, λ digits. refl)
