use Rattle.std.proofs.Common.{◌≡◌, ℕ, ◌+◌, ◌*◌, ◌%◌, ◌^◌, ◌<◌, length, get_or, subst, refl, arith}
use Rattle.scr_search.specs.declared.outlook.Found.{Found}
use Rattle.scr_search.specs.declared.outlook.Outlook.{Outlook}
use Rattle.scr_search.specs.Outlooks.{IsOutlook}
use Rattle.scr_search.proofs.OutlookLaws.{IsOutlook-found, each_rewritten}
use Rattle.scr_search.proofs.outlook.look_out_from.Goals as goal

pub loop-k-preserved : goal.loop-k-preserved
loop-k-preserved g c =
    let show = g.C.Coord.coordinate c.args.coord.now in
    let distances = c.args.distances.now in
    let here : ℕ = c.loop-first.first + c.loop-k.k in
    let inside : here < length c.loop-k.into = omega arith in
    let position : ℕ = (c.args.start + c.loop-first.first) + c.loop-k.k in
    let place : position ≡ c.args.start + here = omega arith in
    let none : Found = record { nearer = record { bits = 0 }; no_farther = record { bits = 0 } } in
    let found = get_or c.found_from-found.result c.loop-k.k none in
    let outlook : Outlook =
    record { nearer = found.nearer.bits + c.from.result * 262144 % 2 ^ 32; no_farther = found.no_farther.bits } in
    let is : IsOutlook show distances position outlook =
    IsOutlook-found show distances position found outlook (c.found_from-found.ensures c.loop-k.k none (omega arith))
    (omega (arith, c.from.ensures, c.requires.small position)) refl in
    λ j d lt. each_rewritten (λ i o. IsOutlook show distances (c.args.start + i) o) c.loop-k.into here outlook inside
    (subst (λ p. IsOutlook show distances p outlook) place is) j d (λ other. c.loop-k.invariant j d (omega (arith, lt, other)))
