use Rattle.std.proofs.Common.{refl}
use Rattle.scr_layout.specs.Name.{spaced, width, first_wide, fitted}
use Rattle.scr_layout.proofs.laws.names_that_fit.Goals as goal

pub returns-clause-spaces : goal.returns-clause-spaces
unfolding spaced width first_wide fitted
returns-clause-spaces c = refl

pub returns-clause-whole : goal.returns-clause-whole
unfolding spaced width first_wide fitted
returns-clause-whole c = refl

pub returns-clause-cut : goal.returns-clause-cut
unfolding spaced width first_wide fitted
returns-clause-cut c = refl

pub returns-clause-wide : goal.returns-clause-wide
unfolding spaced width first_wide fitted
returns-clause-wide c = refl

pub returns-clause-blank : goal.returns-clause-blank
unfolding spaced width first_wide fitted
returns-clause-blank c = refl
