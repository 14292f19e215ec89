use Rattle.scr_positions.specs.Coordinates.{moved, IsGoal}
use Rattle.scr_combinatorics.proofs.FirstWordLaws.{IsDistance-unique, IsDistance-first, IsFirstWord-unique, IsFirstWord-goal, IsFirstWord-cons, IsFirstWord-parts, IsGoal-empty}
use Rattle.scr_laws.proofs.table.first_words.Goals as goal

pub returns-clause-one : goal.returns-clause-one
returns-clause-one _ = λ c. IsFirstWord-unique (moved c) (IsGoal c)

pub returns-clause-as_long : goal.returns-clause-as_long
returns-clause-as_long _ = λ c p d w first.
    IsDistance-unique (moved c) (IsGoal c) p _ d (IsDistance-first (moved c) (IsGoal c) p w first)

pub returns-clause-empty : goal.returns-clause-empty
returns-clause-empty _ = λ c p.
    (λ first. IsGoal-empty (moved c) (IsGoal c) p first.leads, IsFirstWord-goal (moved c) (IsGoal c) p)

pub returns-clause-goes_on : goal.returns-clause-goes_on
returns-clause-goes_on _ = λ c p q t d w. IsFirstWord-cons (moved c) (IsGoal c) p q t d w

pub returns-clause-begins : goal.returns-clause-begins
returns-clause-begins _ = λ c p t w. IsFirstWord-parts (moved c) (IsGoal c) p t w
