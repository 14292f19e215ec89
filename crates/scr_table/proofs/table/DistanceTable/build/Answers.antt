use Rattle.std.proofs.Common.{ℕ, List, refl, sym, ap, ◌∙◌, subst, length, get_or, arith}
use Rattle.scr_table.specs.Distances.{Measures}
use Rattle.scr_table.proofs.FilledLaws.{IsFirstGap-above, Measures-known}
use Rattle.scr_table.proofs.table.DistanceTable.build.Goals as goal

pub returns-in-Some-clause-cause : goal.returns-in-Some-clause-cause
returns-in-Some-clause-cause g c =
    let coordinate = g.C.Coord.coordinate c.args.coord.now in
    let first = c.in-Some.ensures in
    let same = c.deref.ensures.value in (
      refl,
      IsFirstGap-above coordinate c.args.bound c.in-Some.index c.in_ok-entries.entries.items (omega (arith, c.requires.bound))
          c.in_ok-entries.ensures (omega (arith, first.below, ap length same)) (omega (arith, first.above, ap (λ xs. get_or xs c.in-Some.index 0) same))
          (λ p less. omega (arith, first.first p less, ap (λ xs. get_or xs p 0) same)),
    )

pub returns-clause-measures : goal.returns-clause-measures
returns-clause-measures g c =
    let coordinate = g.C.Coord.coordinate c.args.coord.now in
    let Is : List ℕ → Type 0 =
    λ entries. Measures coordinate (record { name = c.args.name; bound = c.args.bound; distances = entries }) in
    subst Is (sym (c.in_ok-of-in-None.ensures ∙ c.deref-in-None.ensures.value)) (
    Measures-known coordinate c.args.name c.args.bound c.in_ok-entries.entries.items c.count-positions.ensures.stays_below (omega (arith, c.requires.bound)) c.in_ok-entries.ensures
    (λ p. omega (arith, c.in-None.ensures.none p, ap (λ xs. get_or xs p 0) c.deref.ensures.value))
    )
