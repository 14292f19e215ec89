use Rattle.std.proofs.Common.{◌≡◌, refl, arith}
use Rattle.scr_draw.proofs.Tried.{tried_all, tried_passed, tried_refused}
use Rattle.scr_bigs.proofs.ChoiceLaws.{hit-answer}
use Rattle.scr_bigs.proofs.choosing.choose.Goals as goal

pub returns-in-Some-clause-number : goal.returns-in-Some-clause-number
returns-in-Some-clause-number g c =
    rw (← hit-answer c.args.count) (tried_passed c.loop-tried.invariant c.loop-tried-test.true c.from.ensures c.in-Some.ensures.value refl refl).draws

pub returns-in-Some-clause-taken : goal.returns-in-Some-clause-taken
returns-in-Some-clause-taken g c =
    let ends = tried_passed c.loop-tried.invariant c.loop-tried-test.true c.from.ensures c.in-Some.ensures.value refl refl in
    let three = c.in-Some.ensures.three in
    let before = c.loop-tried.invariant.taken in
    rw (← hit-answer c.args.count, ends.reads) (omega (arith, three, before))

pub loop-tried-preserved : goal.loop-tried-preserved
loop-tried-preserved g c =
    tried_refused c.loop-tried.invariant c.loop-tried-test.true c.from.ensures c.in_default.ensures.value
    c.in_default.ensures.same_words c.in_default.ensures.three

pub returns-clause-number : goal.returns-clause-number
returns-clause-number g c =
    let whole : c.loop-tried.tried ≡ c.args.attempts = omega arith in
    rw (← hit-answer c.args.count) (tried_all c.loop-tried.invariant whole).draws

pub returns-clause-taken : goal.returns-clause-taken
returns-clause-taken g c =
    let whole : c.loop-tried.tried ≡ c.args.attempts = omega arith in
    let before = c.loop-tried.invariant.taken in
    rw (← hit-answer c.args.count, (tried_all c.loop-tried.invariant whole).reads) (omega (arith, before, whole))
