-- Laws of the turns of a Pyraminx, without its tips and with them: with its states they are a monoid, each third has
-- order 3, and what follows of that.
use Rattle.std.proofs.Common.{ℕ, Bool, true, List, refl, lit<, lit≤, eqb-true}
use Rattle.std.specs.Prelude.{◌≡◌, ◌==◌, ◌&&◌}
use Rattle.std.specs.Str.{bytes_eq}
use Rattle.std.proofs.lemmas.Bool.{and_parts}
use Rattle.scr_combinatorics.specs.Permutations.{parity}
use Rattle.scr_orbit.specs.Monoids.{IsMonoid}
use Rattle.scr_orbit.specs.Orbits.{Orbit, IsZeroSumOrbit, turned_orbit, added_digits, orbit_monoid, zeros}
use Rattle.scr_orbit.specs.InPlace.{AreDigitsInPlace, in_place_monoid}
use Rattle.scr_orbit.specs.PowerPuzzles.{IsPowerPuzzle, part_turns}
use Rattle.scr_orbit.proofs.OrbitLaws.{zero_sum_laws}
use Rattle.scr_orbit.proofs.InPlaceLaws.{in_place_laws}
use Rattle.scr_orbit.proofs.Orders.{TellsSolved, tells_orbit, tells_in_place, tells_both}
use Rattle.scr_orbit.proofs.Parts.{ap_both, pair_monoid, IsSeenAs, IsSeenAs-whole, IsMonoid-two, IsMadeAt}
use Rattle.scr_orbit.proofs.TableTests.{and_three, is_still, is_zero_sum, IsZeroSumOrbit-from_test, are_in_place, AreDigitsInPlace-from_test}
use Rattle.scr_notation.specs.Turning.{opposite, turn_merging}
use Rattle.scr_notation.proofs.AxisLaws.{axis_powers, axes_numbered}
use Rattle.scr_orbit.proofs.PowerPuzzleLaws.{IsPowerPuzzle-from_test}
use Rattle.scr_orbit.proofs.TurnedAt.{IsTurned, IsTurned-two}
use Rattle.scr_tetra.specs.Pyraminx.{TetraminxState, IsTetraminx, tetraminx_monoid, tetraminx_powers, solved_tetraminx, PyramState, IsPyram, pyram_monoid, pyram_powers}
use Rattle.scr_tetra.proofs.EvenTurned.{even-turned}
use Rattle.scr_tetra.proofs.PyramLiterals.{pyram_on_literals}

-- ---- a state is its parts

pub same_tetraminx : (s t : TetraminxState) → s.edges ≡ t.edges → s.axials ≡ t.axials → s ≡ t
same_tetraminx s t a b = ap_both (λ edges axials. record { edges = edges; axials = axials }) a b

pub same_pyram : (s t : PyramState) → s.body ≡ t.body → s.tips ≡ t.tips → s ≡ t
same_pyram s t a b = ap_both (λ body tips. record { body = body; tips = tips }) a b

tetraminx_as_pair : IsSeenAs tetraminx_monoid (pair_monoid (orbit_monoid 6 2) (in_place_monoid 4 3)) (λ s. (s.edges, s.axials))
unfolding pyram_on_literals
tetraminx_as_pair = IsSeenAs-whole (λ p. record { edges = p.0; axials = p.1 }) (λ s. refl) (λ s r. refl) refl

pyram_as_pair : IsSeenAs pyram_monoid (pair_monoid tetraminx_monoid (in_place_monoid 4 3)) (λ s. (s.body, s.tips))
unfolding pyram_on_literals
pyram_as_pair = IsSeenAs-whole (λ p. record { body = p.0; tips = p.1 }) (λ s. refl) (λ s r. refl) refl

-- ---- the two kinds of turns

abbrev pub large_turn : TetraminxState → PyramState
large_turn r = record { body = r; tips = zeros 4 }

abbrev pub tip_turn : List ℕ → PyramState
tip_turn added = record { body = solved_tetraminx; tips = added }

-- ---- the monoids

pub tetraminx_laws : IsMonoid tetraminx_monoid IsTetraminx
unfolding pyram_on_literals
tetraminx_laws =
    let edges = zero_sum_laws 6 2 (lit< tt) in
    let axials = in_place_laws 4 3 (lit< tt) in
    IsMonoid-two tetraminx_monoid (orbit_monoid 6 2) (in_place_monoid 4 3) _ tetraminx_as_pair (IsZeroSumOrbit 6 2) (AreDigitsInPlace 4 3) edges axials
    IsTetraminx (λ s h. (h.edges, h.axials))
    (λ s r h k a b. record { edges = a; even = even-turned 6 2 s.edges r.edges h.edges.pieces k.edges.pieces h.even k.even; axials = b })
    (record { edges = edges.solved; even = refl; axials = axials.solved })

pub pyram_laws : IsMonoid pyram_monoid IsPyram
unfolding pyram_on_literals
pyram_laws =
    let tips = in_place_laws 4 3 (lit< tt) in
    IsMonoid-two pyram_monoid tetraminx_monoid (in_place_monoid 4 3) _ pyram_as_pair IsTetraminx (AreDigitsInPlace 4 3) tetraminx_laws tips
    IsPyram (λ s h. (h.body, h.tips)) (λ s r h k a b. record { body = a; tips = b })
    (record { body = tetraminx_laws.solved; tips = tips.solved })

-- ---- tests that the checker computes

unfoldable pub moves_no_body : TetraminxState → Bool
moves_no_body r = is_still 6 r.edges && bytes_eq r.axials (zeros 4)

pub tells_tetraminx : TellsSolved tetraminx_monoid moves_no_body
unfolding moves_no_body
tells_tetraminx =
    tells_both tetraminx_monoid (orbit_monoid 6 2) (in_place_monoid 4 3) _ tetraminx_as_pair (is_still 6) (λ ds. bytes_eq ds (zeros 4)) (tells_orbit 6 2)
    (tells_in_place 4 3)

unfoldable pub moves_nothing : PyramState → Bool
moves_nothing r = moves_no_body r.body && bytes_eq r.tips (zeros 4)

pub tells_pyram : TellsSolved pyram_monoid moves_nothing
unfolding moves_nothing
tells_pyram =
    tells_both pyram_monoid tetraminx_monoid (in_place_monoid 4 3) _ pyram_as_pair moves_no_body (λ ds. bytes_eq ds (zeros 4)) tells_tetraminx
    (tells_in_place 4 3)

is_tetraminx : TetraminxState → Bool
is_tetraminx s = is_zero_sum 6 2 s.edges && ((parity s.edges.pieces == 0) && are_in_place 4 3 s.axials)

IsTetraminx-from_test : (s : TetraminxState) → is_tetraminx s ≡ true → IsTetraminx s
unfolding is_tetraminx
IsTetraminx-from_test s h =
    let parts = and_three (is_zero_sum 6 2 s.edges) (parity s.edges.pieces == 0) (are_in_place 4 3 s.axials) h in
    record {
      edges = IsZeroSumOrbit-from_test 6 2 s.edges parts.0;
      even = eqb-true (parity s.edges.pieces) 0 parts.1;
      axials = AreDigitsInPlace-from_test 4 3 s.axials parts.2;
    }

is_pyram : PyramState → Bool
is_pyram s = is_tetraminx s.body && are_in_place 4 3 s.tips

IsPyram-from_test : (s : PyramState) → is_pyram s ≡ true → IsPyram s
unfolding is_pyram
IsPyram-from_test s h =
    let both = and_parts (is_tetraminx s.body) (are_in_place 4 3 s.tips) h in
    record { body = IsTetraminx-from_test s.body both.0; tips = AreDigitsInPlace-from_test 4 3 s.tips both.1 }

-- ---- what follows of that

pub lawful_tetraminx : IsPowerPuzzle tetraminx_powers IsTetraminx opposite turn_merging
unfolding is_tetraminx moves_no_body pyram_on_literals
lawful_tetraminx =
    IsPowerPuzzle-from_test tetraminx_powers IsTetraminx (record { numbered = axes_numbered; powers = axis_powers; few = lit≤ tt }) tetraminx_laws
    moves_no_body tells_tetraminx is_tetraminx IsTetraminx-from_test refl

pub lawful_pyram : IsPowerPuzzle pyram_powers IsPyram opposite turn_merging
unfolding is_pyram is_tetraminx moves_nothing moves_no_body pyram_on_literals
lawful_pyram =
    IsPowerPuzzle-from_test pyram_powers IsPyram (record { numbered = axes_numbered; powers = axis_powers; few = lit≤ tt }) pyram_laws
    moves_nothing tells_pyram is_pyram IsPyram-from_test refl

-- the state without tips after a large turn, and it is valid
pub tetraminx_turned : (s : TetraminxState) (edges : Orbit) (axials : List ℕ) (n : ℕ) → IsTetraminx s
    → IsMadeAt (part_turns (λ r. r.edges) tetraminx_powers) n (turned_orbit 2 s.edges) edges
    → IsMadeAt (part_turns (λ r. r.axials) tetraminx_powers) n (added_digits 3 s.axials) axials
    → IsTurned tetraminx_powers IsTetraminx s n (record { edges = edges; axials = axials })
tetraminx_turned s edges axials n own =
    IsTurned-two tetraminx_powers lawful_tetraminx s (record { edges = edges; axials = axials }) n own (orbit_monoid 6 2) (in_place_monoid 4 3) _ tetraminx_as_pair
