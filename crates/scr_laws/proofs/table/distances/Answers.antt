use Rattle.std.proofs.Common.{true}
use Rattle.std.proofs.Math.Bool.{Bool-set}
use Rattle.scr_positions.specs.Coordinates.{moved, IsGoal}
use Rattle.scr_combinatorics.proofs.FirstWordLaws.{IsDistance-unique, IsDistance-goal, IsGoal-distance, IsDistance-lowers, IsDistance-step}
use Rattle.scr_laws.proofs.table.distances.Goals as goal

pub returns-clause-one : goal.returns-clause-one
returns-clause-one _ = λ c. IsDistance-unique (moved c) (IsGoal c)

pub returns-clause-zero : goal.returns-clause-zero
returns-clause-zero _ = λ c p.
    (IsGoal-distance (moved c) (IsGoal c) p (Bool-set (c.is_goal p) true), IsDistance-goal (moved c) (IsGoal c) p)

pub returns-clause-lowers : goal.returns-clause-lowers
returns-clause-lowers _ = λ c. IsDistance-lowers (moved c) (IsGoal c)

pub returns-clause-no_further : goal.returns-clause-no_further
returns-clause-no_further _ = λ c p q t d e. IsDistance-step (moved c) (IsGoal c) p q t d e
