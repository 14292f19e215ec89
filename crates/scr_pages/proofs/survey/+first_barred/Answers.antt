use Rattle.std.proofs.Common.{◌≡◌, sym, ap, ◌∙◌, arith, is_some}
use Rattle.std.proofs.lemmas.Bool.{false≢true}
use Rattle.scr_combinatorics.specs.Play.{play}
use Rattle.scr_sq1.specs.Units.{Sq1State, sq1_after}
use Rattle.scr_notation.specs.Written.{Written}
use Rattle.scr_notation.specs.declared.event.Puzzle.TheVariants.{Square1}
use Rattle.scr_notation.specs.Event.{puzzle_of}
use Rattle.scr_pages.specs.Slots.{IsBarred}
use Rattle.scr_pages.proofs.SlotLemmas.{first-is, first-is_not, first-of, not_some, rest-are, rest-shorter}
use Rattle.scr_pages.proofs.survey.+first_barred.Goals as goal

pub returns-then-is_none : goal.returns-then-is_none
returns-then-is_none t c =
    let some = c.in-len1-up.len_at_least in
    let at = c.first-item.is in
    first-is IsBarred c.args.line c.args.scrambles.now c.first-item.result some at
    (record { puzzle = first-of (λ (s : Written). puzzle_of s.event ≡ Square1) c.args.scrambles.now c.first-item.result some at c.requires.puzzle; barred = sym (c.play.ensures ∙ ap (λ (s : Sq1State). play sq1_after s c.first-item.result.turns) c.solved.ensures) ∙ not_some c.play.result c.if-is_none.ensures })

pub first_barred-requires : goal.first_barred-requires
first_barred-requires t c =
    let some = c.in-len1-up.len_at_least in
    let shorter = rest-shorter c.args.scrambles.now c.first-item.result some c.first-item.is in
    (omega (arith, shorter), (omega (arith, shorter, c.requires.room), rest-are (λ (s : Written). puzzle_of s.event ≡ Square1) c.args.scrambles.now c.first-item.result some c.first-item.is c.requires.puzzle))

pub returns-else-is_none : goal.returns-else-is_none
returns-else-is_none t c =
    first-is_not IsBarred c.args.line c.args.scrambles.now c.first-item.result c.first_barred.result c.in-len1-up.len_at_least c.first-item.is
    (λ is.
    let none = c.play.ensures ∙ ap (λ (s : Sq1State). play sq1_after s c.first-item.result.turns) c.solved.ensures ∙ is.barred in
    false≢true (sym (ap is_some none) ∙ c.if-is_none.ensures)) c.first_barred.ensures
