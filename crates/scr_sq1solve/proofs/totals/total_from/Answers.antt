use Rattle.std.proofs.Common.{sym, ap, ◌∙◌, subst}
use Rattle.scr_notation.specs.Written.{Written}
use Rattle.scr_sq1solve.specs.Counts.{IsWithinBounds}
use Rattle.scr_sq1solve.specs.Totals.{IsTotal}
use Rattle.scr_sq1solve.proofs.TotalLaws.{IsTotal-unique, play-total, play-total_back}
use Rattle.scr_sq1solve.proofs.totals.total_from.Goals as goal

pub returns : goal.returns
returns c =
    let s = c.args.state.now in
    let word = c.args.shape_word.now in
    let turns = c.scramble.result.turns in
    let of_total = ap (λ (w : Written). w.turns) (sym c.scramble.ensures) in
    let total : IsTotal s word turns = subst (IsTotal s word) of_total c.total_of.ensures.total in
    record {
      event = ap (λ (w : Written). w.event) c.scramble.ensures ∙ c.total_of.ensures.event;
      total = total;
      only = λ others other. IsTotal-unique s word others turns other total;
      within = subst IsWithinBounds of_total c.total_of.ensures.within;
      solves = play-total s word turns c.total_of.ensures.valid total;
      taken_back = play-total_back s word turns c.total_of.ensures.valid total;
    }
