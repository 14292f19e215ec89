use Rattle.std.proofs.Common.{◌≡◌, Option, Some, None, ◌∙◌, sym, ap, refl, arith}
use Rattle.std.specs.Prelude.{Result, ok_or}
use Rattle.std.specs.Result.{result_ok}
use Rattle.scr_draw.proofs.Outcomes.{Draws-exact}
use Rattle.scr_draw.proofs.Tried.{tried_all, tried_failed, tried_passed, tried_refused}
use Rattle.scr_draw.proofs.drawing.draw.Goals as goal
use Rattle.scr_draw.proofs.drawing.draw.Goals.{in-Some+else-needs_at_least, in_default}

-- what a result is, its state is
ok_is : {X E : Type 0} {result : Result X E} (o : Option X) (e : E) → result ≡ ok_or o e → o ≡ result_ok result
ok_is None e h = sym (ap result_ok h)
ok_is (Some x) e h = sym (ap result_ok h)

pub returns-then-needs_at_least-clause-state : goal.returns-then-needs_at_least-clause-state
returns-then-needs_at_least-clause-state g c =
    let ends = tried_passed c.loop-tried.invariant c.loop-tried-test.true c.count-count.ensures.value c.in-Some.ensures.value
    c.state_at-state.ensures (sym c.needs_at_least.ensures ∙ c.if-needs_at_least.true) in
    rw ends.draws refl

pub returns-then-needs_at_least-clause-draws : goal.returns-then-needs_at_least-clause-draws
returns-then-needs_at_least-clause-draws g c =
    let event = c.args.puzzle.now in
    Draws-exact _ _ c.args.least c.count-count.ensures.numbering (λ s. g.P.Permit.needs event s c.args.least)
    (λ s valid. g.met.P.Permit.exact event s c.args.least c.count-count.ensures.told c.requires.least_in_range valid) _ _
    (ok_is _ _ (returns-then-needs_at_least-clause-state g c))

pub returns-then-needs_at_least-clause-taken : goal.returns-then-needs_at_least-clause-taken
returns-then-needs_at_least-clause-taken g c =
    let ends = tried_passed c.loop-tried.invariant c.loop-tried-test.true c.count-count.ensures.value c.in-Some.ensures.value
    c.state_at-state.ensures (sym c.needs_at_least.ensures ∙ c.if-needs_at_least.true) in
    let three = c.in-Some.ensures.three in
    let before = c.loop-tried.invariant.taken in
    rw ends.reads (omega (arith, three, before))

pub loop-tried-preserved : goal.loop-tried-preserved
loop-tried-preserved g c =
    elim c.match-attempt.branch [
      | in-Some+else-needs_at_least w ↦
          tried_failed c.loop-tried.invariant c.loop-tried-test.true c.count-count.ensures.value w.in-Some.ensures.value
          w.state_at-state.ensures (sym w.needs_at_least.ensures ∙ w.if-needs_at_least.false)
          c.attempt.ensures.same_words c.attempt.ensures.three
      | in_default w ↦
          tried_refused c.loop-tried.invariant c.loop-tried-test.true c.count-count.ensures.value w.in_default.ensures.value
          c.attempt.ensures.same_words c.attempt.ensures.three
    ]

pub returns-clause-state : goal.returns-clause-state
returns-clause-state g c =
    let whole : c.loop-tried.tried ≡ c.args.attempts = omega arith in
    rw (tried_all c.loop-tried.invariant whole).draws refl

pub returns-clause-draws : goal.returns-clause-draws
returns-clause-draws g c =
    let event = c.args.puzzle.now in
    Draws-exact _ _ c.args.least c.count-count.ensures.numbering (λ s. g.P.Permit.needs event s c.args.least)
    (λ s valid. g.met.P.Permit.exact event s c.args.least c.count-count.ensures.told c.requires.least_in_range valid) _ _
    (ok_is _ _ (returns-clause-state g c))

pub returns-clause-taken : goal.returns-clause-taken
returns-clause-taken g c =
    let whole : c.loop-tried.tried ≡ c.args.attempts = omega arith in
    let before = c.loop-tried.invariant.taken in
    rw (tried_all c.loop-tried.invariant whole).reads (omega (arith, before, whole))
