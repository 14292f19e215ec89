use Rattle.std.proofs.Common.{refl}
use Rattle.scr_options.specs.OptionWords.{options_read}
use Rattle.scr_text.specs.Numbers.{number_between, number_of_text}
use Rattle.scr_laws.proofs.command.words_that_are_refused.Goals as goal

pub returns-clause-twice : goal.returns-clause-twice
unfolding options_read
returns-clause-twice c = (λ digits. refl, λ digits. refl)

pub returns-clause-short : goal.returns-clause-short
unfolding options_read
returns-clause-short c = (λ digits. refl, λ digits. refl)

pub returns-clause-unknown : goal.returns-clause-unknown
unfolding options_read
returns-clause-unknown c = (λ digits. refl, λ digits. refl, λ digits. refl)

pub returns-clause-without_value : goal.returns-clause-without_value
unfolding options_read
returns-clause-without_value c = (λ digits. refl, λ digits. refl)

pub returns-clause-without_seed : goal.returns-clause-without_seed
unfolding options_read number_between number_of_text
returns-clause-without_seed c = refl
