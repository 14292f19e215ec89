use Rattle.std.proofs.Common.{◌+◌, ◌-◌, ◌++◌, [], sym, ap, ◌∙◌, subst, take, arith}
use Rattle.std.specs.List.{flat_map}
use Rattle.scr_combinatorics.specs.Lists.{numbers_from}
use Rattle.scr_table.specs.Words.{goal_words_behind, words_to_goal}
use Rattle.scr_table.proofs.GoalWords.{IsTaking, IsTaking-begin, IsTaking-next, IsTaking-full, goal_words-skipped}
use Rattle.scr_table.proofs.line_table.LineTable.first_words.Goals.{then-len-wanted, else-len-wanted}
use Rattle.scr_table.proofs.line_table.LineTable.first_words.Goals as goal

pub loop-left-init : goal.loop-left-init
loop-left-init g c =
    let line = g.L.Line.line.coordinate in
    let p = c.args.position in
    let most = c.args.most in
    let f = goal_words_behind line p [] in
    let first = c.distance-near.result in
    let others = flat_map f (numbers_from first (most + 1 - first)) in
    rw c.new.ensures (
      IsTaking-begin c.args.wanted (words_to_goal line p most) [] others
          (ap (λ d. flat_map f (numbers_from d (most + 1 - d))) c.distance-near.ensures.value
          ∙ goal_words-skipped line c.self.inside.distances c.self.invariant.is.measures p most c.requires.position)
          (omega arith),
      c.new-word.ensures,
    )

pub loop-left-preserved : goal.loop-left-preserved
loop-left-preserved g c =
    let line = g.L.Line.line.coordinate in
    let p = c.args.position in
    let wanted = c.args.wanted in
    let all = words_to_goal line p c.args.most in
    let f = goal_words_behind line p [] in
    let found = c.loop-left.found in
    let left = c.loop-left.left in
    let end = c.args.most + 1 in
    let lt = c.loop-left-test.true in
    let h = c.loop-left.invariant in
    elim c.if-len-wanted.branch [
      | then-len-wanted w ↦ (
        IsTaking-next wanted all f left end found lt h.0 c.if-len-wanted.found
            (w.found-is ∙ w.push_behind.ensures.found ∙ ap (λ v. take wanted (found ++ goal_words_behind line p v left)) h.1),
        ap (λ v. v.items) w.word-is ∙ w.push_behind.ensures.word ∙ h.1,
      )
      | else-len-wanted w ↦ (
        subst (λ now. IsTaking wanted all now (flat_map f (numbers_from (left + 1) (end - (left + 1))))) (sym w.found-is)
            (IsTaking-full wanted all f left end found lt h.0 (omega (arith, w.if-len-wanted.false, c.len.ensures.count))),
        ap (λ v. v.items) w.word-is ∙ h.1,
      )
    ]
