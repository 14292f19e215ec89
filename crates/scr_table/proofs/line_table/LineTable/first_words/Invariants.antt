use Rattle.std.proofs.Common.{◌≡◌, ◌+◌, ◌-◌, []}
use Rattle.std.specs.List.{flat_map}
use Rattle.scr_combinatorics.specs.Lists.{numbers_from}
use Rattle.scr_table.specs.Words.{goal_words_behind, words_to_goal}
use Rattle.scr_table.proofs.GoalWords.{IsTaking}
use Rattle.scr_table.proofs.line_table.LineTable.first_words.Given as goal

abbrev pub invariant-loop-left : goal.invariant-loop-left
invariant-loop-left g l =
    let c = g.L.Line.line.coordinate in
    IsTaking l.wanted (words_to_goal c l.position l.most) l.found
    (flat_map (goal_words_behind c l.position []) (numbers_from l.left (l.most + 1 - l.left)))
    × (l.word.items ≡ [])
