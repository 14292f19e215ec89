use Rattle.std.proofs.Common.{refl, sym, ap, ◌∙◌, arith}
use Rattle.std.specs.Prelude.{is_some}
use Rattle.std.proofs.lemmas.Bool.{false≢true}
use Rattle.scr_sq1tables.proofs.HomeStage.{corners-led, rows-led, made}
use Rattle.scr_sq1tables.proofs.code_moves.CodeMoves.after.Goals as goal

pub returns-in_err-corners : goal.returns-in_err-corners
returns-in_err-corners c =
    let m = c.args.self.now in
    absurd (false≢true (ap is_some (sym c.in_err-corners.was ∙ c.after.ensures.leads) ∙ corners-led m.kept m.shows_corners m.shows_rows c.requires.position c.requires.turn))

pub returns-in_err-place : goal.returns-in_err-place
returns-in_err-place c =
    let m = c.args.self.now in
    absurd (false≢true (ap is_some (sym c.in_err-place.was ∙ c.after-2.ensures.leads) ∙ rows-led m.kept m.shows_corners m.shows_rows c.requires.position c.requires.turn (grind arith)))

pub returns : goal.returns
returns c =
    let m = c.args.self.now in
    made m.kept m.shows_corners m.shows_rows c.requires.position c.requires.turn (sym c.in_ok-corners.was ∙ c.after.ensures.leads)
    (grind arith) (sym c.in_ok-place.was ∙ c.after-2.ensures.leads) refl
