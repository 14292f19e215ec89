use Rattle.std.proofs.Common.{ap, sym, ◌∙◌}
use Rattle.scr_notation.specs.Event.{usual_in}
use Rattle.scr_sheet.proofs.LoadRounds.{unnamed}
use Rattle.scr_sheet.proofs.load.load_round.Goals as goal
use Rattle.scr_sheet.proofs.load.load_round.Goals.{in-Some, in-None}

pub returns : goal.returns
returns c =
    unnamed c.args.number c.args.k c.match-minima.least c.new.result.bytes
    (elim c.match-minima.branch [
      | in-Some w ↦ w.least-is ∙ ap usual_in (sym w.in-Some.is ∙ c.minima.ensures.value)
      | in-None w ↦ w.least-is ∙ ap usual_in (sym w.in-None.is ∙ c.minima.ensures.value)
    ])
    c.new.ensures
