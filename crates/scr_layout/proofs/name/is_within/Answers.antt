use Rattle.std.proofs.Common.{arith}
use Rattle.std.proofs.lemmas.Bool.Decides.{nat_tests}
use Rattle.std.proofs.lemmas.Iterator.{YieldsList-from_chars}
use Rattle.std.proofs.lemmas.Iterator.Consumers.{YieldsList-turn, YieldsList-end}
use Rattle.std.proofs.lemmas.List.{length_push}
use Rattle.scr_layout.proofs.NameLemmas.{width-next, width-end}
use Rattle.scr_layout.proofs.name.is_within.Goals as goal

pub returns-then-left-wide : goal.returns-then-left-wide
returns-then-left-wide c =
    let at = YieldsList-turn (YieldsList-from_chars c.args.text.now c.utf8.text cc) c.loop-letter.yielded _ c.loop-letter.yielded_by _ _ c.in-Some.letter c.in-Some.is c.next.ensures.steps in
    let next = width-next _ _ _ at in
    let takes = c.letter_width-wide.ensures in
    let before = c.loop-letter.invariant in
    grind (arith, nat_tests)

pub loop-letter-preserved : goal.loop-letter-preserved
loop-letter-preserved c =
    let at = YieldsList-turn (YieldsList-from_chars c.args.text.now c.utf8.text cc) c.loop-letter.yielded _ c.loop-letter.yielded_by _ _ c.in-Some.letter c.in-Some.is c.next.ensures.steps in
    rw (length_push c.loop-letter.yielded c.in-Some.letter)
    (omega (arith, width-next _ _ _ at, c.letter_width-wide.ensures, c.loop-letter.invariant))

pub returns : goal.returns
returns c =
    let at = YieldsList-end (YieldsList-from_chars c.args.text.now c.utf8.text cc) c.loop-letter.yielded _ c.loop-letter.yielded_by _ _ c.in-None.is c.next.ensures.steps in
    let none = width-end _ _ at.1 in
    let before = c.loop-letter.invariant in
    grind (arith, nat_tests)
