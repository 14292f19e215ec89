use Rattle.std.proofs.Common.{◌≡◌, ◌+◌, ◌-◌, ◌*◌, ◌<◌, ◌≤◌, ◌⊎◌, inl, inr, sym, ap, ◌∙◌, arith}
use Rattle.std.proofs.lemmas.Bool.{cases_lt}
use Rattle.scr_positions.specs.Coordinates.{value_at}
use Rattle.scr_positions.specs.Products.{side_by_side}
use Rattle.scr_positions.proofs.PartWritten.{in_part, beside_part}
use Rattle.scr_positions.proofs.ProductLaws.{row_at, row_of, row_after}
use Rattle.scr_positions.proofs.product.Product.look_along_row.Goals as goal

pub returns-clause-entered : goal.returns-clause-entered
returns-clause-entered g c =
    λ k inside row.
    let low = g.L.Coord.coordinate c.args.self.now.low in
    let high = g.H.Coord.coordinate c.args.self.now.high in
    let p = c.args.start + k in
    let values = c.args.values.now in
    let from = c.max-from.result - c.args.start in
    let size = c.min-to.result - c.args.start - from in
    let first = ap (λ n. c.args.high * n) c.count-low_count.ensures.count in
    let within = row_of low.count high.count c.args.high p (omega arith) row in
    let place : (c.max-from.result - c.args.high * c.count-low_count.result) + (k - from) ≡ p - c.args.high * low.count =
    omega (arith, within, first) in
    in_part from size c.args.into.now c.look_in_row.new.into (omega arith) (omega arith) k (omega (arith, within.0, first))
    (omega (arith, within.1, first, c.count-low_count.ensures.count))
    ∙ c.look_in_row.ensures (k - from) (omega (arith, within.1, first, c.count-low_count.ensures.count))
    ∙ ap (λ q. value_at values (side_by_side low.count (low.after q c.args.turn) c.after.result)) place
    ∙ ap (λ o. value_at values (side_by_side low.count (low.after (p - c.args.high * low.count) c.args.turn) o)) c.after.ensures.leads
    ∙ ap (value_at values) (sym (row_after low high c.args.high p c.args.turn within.0 within.1))

pub returns-clause-kept : goal.returns-clause-kept
returns-clause-kept g c =
    λ k inside other.
    let low = g.L.Coord.coordinate c.args.self.now.low in
    let p = c.args.start + k in
    let from = c.max-from.result - c.args.start in
    let size = c.min-to.result - c.args.start - from in
    let first = ap (λ n. c.args.high * n) c.count-low_count.ensures.count in
    let out : (k < from) ⊎ (from + size ≤ k) =
    elim (cases_lt k from) [
      | inl less ↦ inl less
      | inr from_on ↦
          elim (cases_lt k (from + size)) [
            | inl to ↦
                absurd (other (row_at low.count c.args.high p (omega (arith, first)) (omega (arith, first, c.count-low_count.ensures.count))).1)
            | inr more ↦ inr more
          ]
    ] in
    beside_part from size c.args.into.now c.look_in_row.new.into (omega arith) (omega arith) k out
