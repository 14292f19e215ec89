use Rattle.std.proofs.Common.{ℕ, List, IsTrue, refl}
use Rattle.std.specs.Prelude.{◌↔◌}
use Rattle.scr_combinatorics.specs.FirstWord.{LeadsTo}
use Rattle.scr_combinatorics.specs.Play.{play}
use Rattle.scr_positions.specs.Coordinates.{Coordinate, moved, IsGoal}
use Rattle.scr_combinatorics.specs.Words.{words_of, words_within}
use Rattle.scr_table.specs.Words.{words_to_goal, leads_to_goal}
use Rattle.scr_table.proofs.GoalWords.{LeadsTo-below, LeadsTo-test, leads-LeadsTo}
use Rattle.scr_table.proofs.WordOrder.{IsEarlier-listed, Contains-listed, first-listed}
use Rattle.scr_laws.proofs.table.goal_words.Goals as goal

tested : (c : Coordinate) (p : ℕ) (w : List ℕ) → IsTrue (leads_to_goal c p w) ↔ LeadsTo (moved c) (IsGoal c) p w
tested c p w = (LeadsTo-test c p w, leads-LeadsTo c p w)

pub returns-clause-all : goal.returns-clause-all
unfolding words_to_goal
returns-clause-all u = λ c p most. Contains-listed (moved c) (IsGoal c) p c.turns most (leads_to_goal c p) (tested c p) (LeadsTo-below c p)

pub returns-clause-in_order : goal.returns-clause-in_order
unfolding words_to_goal
returns-clause-in_order u = λ c p most. IsEarlier-listed (moved c) (IsGoal c) p c.turns most (leads_to_goal c p) (tested c p) (LeadsTo-below c p)

pub returns-clause-first : goal.returns-clause-first
unfolding words_to_goal
returns-clause-first u = λ c p most. first-listed (moved c) (IsGoal c) p c.turns most (leads_to_goal c p) (tested c p) (LeadsTo-below c p)

pub returns-clause-on_the_way : goal.returns-clause-on_the_way
unfolding words_to_goal words_within words_of leads_to_goal play
returns-clause-on_the_way u = refl
