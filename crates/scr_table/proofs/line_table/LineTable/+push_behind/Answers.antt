use Rattle.std.proofs.Common.{◌≡◌, ◌+◌, ◌-◌, ◌<◌, ◌++◌, [], ◌∷◌, suc, refl, sym, ap, ◌∙◌, subst, take, arith}
use Rattle.std.specs.List.{flat_map}
use Rattle.scr_combinatorics.specs.Lists.{numbers_from}
use Rattle.scr_table.specs.Words.{goal_words_behind}
use Rattle.scr_table.proofs.GoalWords.{IsTaking, IsTaking-begin, IsTaking-next, IsTaking-none, goal_words_by, goal_words_by-next, goal_words_by-none, goal_words-found, goal_words-turns}
use Rattle.scr_table.proofs.WordLists.{popped_word, pushed_word}
use Rattle.scr_table.proofs.line_table.LineTable.+push_behind.Goals.{in-Some, in_default}
use Rattle.scr_table.proofs.line_table.LineTable.+push_behind.Goals as goal

pub returns-then-left-eq0-clause-found : goal.returns-then-left-eq0-clause-found
returns-then-left-eq0-clause-found g t c =
    let line = g.L.Line.line.coordinate in
    let before = c.args.found.now in
    c.push.ensures ∙ ap (λ w. before ++ w ∷ []) c.deref.ensures.0
    ∙ goal_words-found line c.args.self.now c.requires.measures before
    c.args.wanted c.args.position c.args.left c.args.word.now.items c.requires.position c.requires.near
    c.if-left-eq0.true c.requires.wanted

pub loop-turn-init : goal.loop-turn-init
loop-turn-init g t c =
    let line = g.L.Line.line.coordinate in
    let word = c.args.word.now.items in
    let before = c.args.found.now in
    let by = goal_words_by line c.args.position word (c.args.left - 1) in
    let one : c.args.left ≡ suc (c.args.left - 1) = omega (arith, c.if-left-eq0.false) in
    let turns : line.turns ≡ line.turns - 0 = omega arith in (
      IsTaking-begin c.args.wanted (before ++ goal_words_behind line c.args.position word c.args.left) before (flat_map by (numbers_from 0 (line.turns - 0)))
          (sym (ap (λ n. before ++ goal_words_behind line c.args.position word n) one
          ∙ ap (λ ws. before ++ ws) (goal_words-turns line c.args.position word (c.args.left - 1))
          ∙ ap (λ n. before ++ flat_map by (numbers_from 0 n)) turns))
          (omega (arith, c.requires.wanted)),
      refl,
    )

pub loop-turn-preserved : goal.loop-turn-preserved
loop-turn-preserved g t c =
    let line = g.L.Line.line.coordinate in
    let word = c.args.word.now.items in
    let p = c.args.position in
    let turn = c.loop-turn.turn in
    let left = c.args.left in
    let wanted = c.args.wanted in
    let all = c.args.found.now ++ goal_words_behind line p word left in
    let by = goal_words_by line p word (left - 1) in
    let lt : turn < line.turns = omega (arith, c.loop-turn-test.true, c.turns-turn-end.ensures, c.self.invariant.shown.turns) in
    elim c.match-near_step.branch [
      | in-Some w ↦
          let next = w.in-Some.next in
          let pushed = pushed_word w.push-in-Some.new.self.items c.loop-turn.word.items word turn turn w.push-in-Some.ensures.items c.loop-turn.invariant.1 refl in (
            IsTaking-next wanted all by turn line.turns c.loop-turn.found lt c.loop-turn.invariant.0 c.match-near_step.found
                (w.found-is ∙ w.push_behind.ensures.found
                ∙ ap (λ v. take wanted (c.loop-turn.found ++ goal_words_behind line next v (left - 1))) pushed
                ∙ ap (λ ws. take wanted (c.loop-turn.found ++ ws)) (sym (goal_words_by-next line p word (left - 1) turn next w.in-Some.ensures.leads))),
            ap (λ v. v.items) w.word-is
                ∙ popped_word w.pop.new.self.items w.push_behind.new.word.items word turn w.pop.ensures.rest (w.push_behind.ensures.word ∙ pushed),
          )
      | in_default w ↦ (
        subst (λ now. IsTaking wanted all now (flat_map by (numbers_from (turn + 1) (line.turns - (turn + 1))))) (sym w.found-is)
            (IsTaking-none wanted all by turn line.turns c.loop-turn.found lt c.loop-turn.invariant.0
            (goal_words_by-none line c.args.self.now c.requires.measures p word left turn c.requires.position (omega (arith, c.if-left-eq0.false)) w.in_default.ensures.far)),
        ap (λ v. v.items) w.word-is ∙ c.loop-turn.invariant.1,
      )
    ]
