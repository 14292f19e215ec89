use Rattle.std.proofs.Common.{◌≡◌, arith}
use Rattle.scr_notation.specs.Written.{Written}
use Rattle.scr_notation.specs.declared.event.Puzzle.TheVariants.{Square1}
use Rattle.scr_notation.specs.Event.{puzzle_of}
use Rattle.scr_pages.specs.Slots.{IsNear}
use Rattle.scr_pages.proofs.SlotLemmas.{first-is, first-is_not, rest-are, rest-shorter}
use Rattle.scr_pages.proofs.survey.+first_near.Goals as goal

pub returns-then-is_near : goal.returns-then-is_near
returns-then-is_near t c =
    first-is IsNear c.args.line c.args.scrambles.now c.first-item.result c.in-len1-up.len_at_least c.first-item.is
    (c.if-is_near.ensures.near c.args.line)

pub first_near-requires : goal.first_near-requires
first_near-requires t c =
    let some = c.in-len1-up.len_at_least in
    let shorter = rest-shorter c.args.scrambles.now c.first-item.result some c.first-item.is in
    (omega (arith, shorter), (omega (arith, shorter, c.requires.room), rest-are (λ (s : Written). puzzle_of s.event ≡ Square1) c.args.scrambles.now c.first-item.result some c.first-item.is c.requires.puzzle))

pub returns-else-is_near : goal.returns-else-is_near
returns-else-is_near t c =
    first-is_not IsNear c.args.line c.args.scrambles.now c.first-item.result c.first_near.result c.in-len1-up.len_at_least c.first-item.is
    (c.if-is_near.ensures.far c.args.line) c.first_near.ensures
