use Rattle.std.proofs.Common.{◌≡◌, ℕ, ◌<◌, ◌≢◌, length, length-set, get_or, get_or-set_other, get_or-set_same, below_more, refl, sym, ◌∙◌, subst, arith}
use Rattle.std.specs.Prelude.{All}
use Rattle.scr_combinatorics.specs.Permutations.{IsPermutation}
use Rattle.scr_combinatorics.proofs.PermutationLaws.{at-permutation, injective-permutation}
use Rattle.scr_orbit.specs.Monoids.{IsInverse}
use Rattle.scr_orbit.specs.Orbits.{Orbit, IsOrbit, orbit_monoid}
use Rattle.scr_orbit.proofs.InverseLaws.{IsInverse-orbit, inverted_by_places, opposite-digit, opposite-zero}
use Rattle.scr_orbit.proofs.placed.Placed.inverse.Goals.{then-digit-eq0, else-digit-eq0}
use Rattle.scr_orbit.proofs.placed.Placed.inverse.Goals as goal

pub bounds-pieces-to : goal.bounds-pieces-to
bounds-pieces-to g c = grind (arith, at-permutation)

pub bounds-digits-to : goal.bounds-digits-to
bounds-digits-to g c = grind (arith, at-permutation)

pub loop-place-preserved : goal.loop-place-preserved
loop-place-preserved g c =
    let n = g.row.N in
    let m = c.args.modulus in
    let o = c.self.inside in
    let place = c.loop-place.place in
    let own : IsPermutation n o.pieces = subst (λ (x : Orbit). IsPermutation n x.pieces) (sym c.self.view_is) c.requires.valid.pieces in
    let digits = subst (λ (x : Orbit). All (λ d. d < m) x.digits) (sym c.self.view_is) c.requires.valid.below in
    let digit : ℕ = get_or o.digits place 0 in
    let low = digits place 0 (omega arith) in
    let to : c.from-to.result ≡ get_or o.pieces place 0 = c.from-to.ensures in
    let inside : c.from-to.result < n = omega (arith, to, at-permutation n o.pieces own place c.loop-place-test.true) in
    let other : (k : ℕ) → k < place → get_or o.pieces k 0 ≢ c.from-to.result =
    λ k h e. omega (arith, h, injective-permutation n o.pieces own k place (omega arith) c.loop-place-test.true (e ∙ to)) in
    record {
      long_pieces = length-set c.loop-place.pieces c.from-to.result place ∙ c.loop-place.invariant.long_pieces;
      long_digits = length-set c.loop-place.digits c.from-to.result _ ∙ c.loop-place.invariant.long_digits;
      pieces = below_more _ _
          (λ k h. let ne : get_or o.pieces k 0 ≢ c.from-to.result = other k h in rw get_or-set_other (c.loop-place.invariant.pieces k h))
          (let lt : c.from-to.result < length c.loop-place.pieces = omega (arith, inside, c.loop-place.invariant.long_pieces) in rw (sym to) (rw get_or-set_same refl));
      digits = below_more _ _
          (λ k h. let ne : get_or o.pieces k 0 ≢ c.from-to.result = other k h in rw get_or-set_other (c.loop-place.invariant.digits k h))
          (let lt : c.from-to.result < length c.loop-place.digits = omega (arith, inside, c.loop-place.invariant.long_digits) in rw (sym to) (rw get_or-set_same
          (elim c.if-digit-eq0.branch [
            | then-digit-eq0 w ↦ w.digits-is ∙ opposite-zero m digit w.if-digit-eq0.true
            | else-digit-eq0 w ↦
                let some : digit ≢ 0 = w.if-digit-eq0.false in
                w.digits-is ∙ opposite-digit m digit (omega arith) low
          ])));
    }

pub returns : goal.returns
returns g c =
    let n = g.row.N in
    let m = c.args.modulus in
    let o : Orbit = record { pieces = c.self.inside.pieces; digits = c.self.inside.digits } in
    let valid = subst (IsOrbit n m) (sym c.self.view_is) c.requires.valid in
    subst (λ x. IsInverse (orbit_monoid n m) (IsOrbit n m) x (record { pieces = c.loop-place.pieces; digits = c.loop-place.digits })) c.self.view_is
    (subst (IsInverse (orbit_monoid n m) (IsOrbit n m) o)
    (sym (inverted_by_places n m o c.loop-place.pieces c.loop-place.digits valid c.loop-place.invariant.long_pieces c.loop-place.invariant.long_digits
    (λ k lt. c.loop-place.invariant.pieces k (omega arith)) (λ k lt. c.loop-place.invariant.digits k (omega arith))))
    (IsInverse-orbit n m o c.requires.modulus valid))
