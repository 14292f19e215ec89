use Rattle.std.proofs.Common.{◌≡◌, false, get_or, inl, inr, sym, ap, ◌∙◌, subst, arith}
use Rattle.std.proofs.lemmas.Bool.{cases_lt}
use Rattle.scr_combinatorics.specs.Lists.{pick}
use Rattle.scr_sq1.specs.Units.{turn_places}
use Rattle.scr_sq1.proofs.InHalves.{one_corner}
use Rattle.scr_sq1.proofs.LayersApart.{crosses, crosses-turned, crosses-not, is_open-cut, is_open-crossed}
use Rattle.scr_sq1.proofs.turning.is_open_turned.Goals as goal
use Rattle.scr_sq1.proofs.turning.is_open_turned.Goals.{else-piece-lt8-via-then-piece-lt8+else-units-from, else-piece-lt8-via-else-piece-lt8}

pub returns-then-units-from : goal.returns-then-units-from
returns-then-units-from c =
    let us = c.args.units.now in
    let i = c.loop-cut.cut in
    let from = c.from.ensures ∙ c.place_before.ensures in
    let behind = c.from-then-piece-lt8.ensures ∙ c.place_before-then-piece-lt8.ensures in
    sym (is_open-crossed (pick us (turn_places c.args.top c.args.bottom)) i c.loop-cut-test.true
    (crosses-turned us c.args.top c.args.bottom i c.loop-cut-test.true
    ∙ one_corner us _ _ (omega (arith, c.if-piece-lt8.true, ap (λ k. get_or us k 0) from))
    (ap (λ k. get_or us k 0) (sym behind) ∙ c.if-units-from.true ∙ ap (λ k. get_or us k 0) from)))

pub loop-cut-preserved : goal.loop-cut-preserved
loop-cut-preserved c = λ i lt.
    let us = c.args.units.now in
    let from = c.from.ensures ∙ c.place_before.ensures in
    elim (cases_lt i c.loop-cut.cut) [
      | inl before ↦ c.loop-cut.invariant i before
      | inr le ↦
          let here : c.loop-cut.cut ≡ i = omega arith in
          subst (λ k. crosses (pick us (turn_places c.args.top c.args.bottom)) k ≡ false) here
          (crosses-turned us c.args.top c.args.bottom c.loop-cut.cut c.loop-cut-test.true
          ∙ elim c.else-piece-lt8.branch [
            | else-piece-lt8-via-then-piece-lt8+else-units-from w ↦
                let behind = w.from-then-piece-lt8.ensures ∙ w.place_before-then-piece-lt8.ensures in
                crosses-not us _ _ (inr (λ e. w.if-units-from.false (ap (λ k. get_or us k 0) behind ∙ e ∙ ap (λ k. get_or us k 0) (sym from))))
            | else-piece-lt8-via-else-piece-lt8 w ↦
                crosses-not us _ _ (inl (omega (arith, w.if-piece-lt8.false, ap (λ k. get_or us k 0) from)))
          ])
    ]

pub returns : goal.returns
returns c =
    sym (is_open-cut (pick c.args.units.now (turn_places c.args.top c.args.bottom)) (λ i lt. c.loop-cut.invariant i (omega (arith, c.loop-cut-test.false))))
