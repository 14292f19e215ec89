use Rattle.std.proofs.Common.{length-set, get_or-set_other, get_or-set_same, below_more, ap, ◌∙◌, arith}
use Rattle.scr_orbit.specs.Orbits.{Orbit, turned_orbit}
use Rattle.scr_orbit.specs.PlaceTurns.{made_by}
use Rattle.scr_orbit.proofs.OrbitLaws.{places_in}
use Rattle.scr_orbit.proofs.Places.{sum-below, sum-above, turned_by_places}
use Rattle.scr_orbit.proofs.placed.Placed.turned.Goals.{then-sum-modulus, else-sum-modulus}
use Rattle.scr_orbit.proofs.placed.Placed.turned.Goals as goal

pub bounds-self-inside-from : goal.bounds-self-inside-from
bounds-self-inside-from g c = grind (arith, places_in)

pub overflow_add-sum : goal.overflow_add-sum
overflow_add-sum g c = grind (arith, places_in)

pub bounds-self-inside-from-in-loop-place : goal.bounds-self-inside-from-in-loop-place
bounds-self-inside-from-in-loop-place g c = grind (arith, places_in)

pub loop-place-preserved : goal.loop-place-preserved
loop-place-preserved g c =
    grind (arith, places_in, length-set, below_more, get_or-set_other, get_or-set_same, sum-below, sum-above)

pub returns : goal.returns
returns g c =
    let o : Orbit = record { pieces = c.self.inside.pieces; digits = c.self.inside.digits } in
    let r = made_by c.args.turn.now in
    turned_by_places g.row.N c.args.modulus o r c.loop-place.pieces c.loop-place.digits c.loop-place.invariant.long_pieces c.loop-place.invariant.long_digits c.requires.turn.pieces.size c.requires.turn.size
    (λ k lt. c.loop-place.invariant.pieces k (omega arith)) (λ k lt. c.loop-place.invariant.digits k (omega arith))
    ∙ ap (λ x. turned_orbit c.args.modulus x r) c.self.view_is
