use Rattle.std.proofs.Common.{◌≡◌, ◌-◌, ◌++◌}
use Rattle.std.specs.List.{flat_map}
use Rattle.scr_combinatorics.specs.Lists.{numbers_from}
use Rattle.scr_table.specs.Words.{goal_words_behind}
use Rattle.scr_table.proofs.GoalWords.{IsTaking, goal_words_by}
use Rattle.scr_table.proofs.line_table.LineTable.+push_behind.Given as goal

abbrev pub decreases-push_behind : goal.decreases-push_behind
decreases-push_behind g l = l.left

abbrev pub invariant-loop-turn : goal.invariant-loop-turn
invariant-loop-turn g l =
    let c = g.L.Line.line.coordinate in
    let word = l.initial.word.items in
    IsTaking l.wanted (l.initial.found ++ goal_words_behind c l.position word l.left) l.found
    (flat_map (goal_words_by c l.position word (l.left - 1)) (numbers_from l.turn (c.turns - l.turn)))
    × (l.word.items ≡ word)
