-- Laws of the turns of a 3x3x3: cubes are a monoid, each face's quarter turn has order 4, and what follows of that.
use Rattle.std.proofs.Common.{◌≡◌, ℕ, ◌+◌, ◌%◌, ◌<◌, Bool, true, Some, refl, sym, ap, ◌∙◌, lit<, lit≤, arith}
use Rattle.std.specs.Prelude.{◌==◌, ◌&&◌, All, option_and_then}
use Rattle.std.specs.Option.{option_map}
use Rattle.std.proofs.lemmas.Option.{slice_get-get_or}
use Rattle.scr_combinatorics.specs.Permutations.{parity}
use Rattle.scr_orbit.specs.Monoids.{IsMonoid, power, power_of}
use Rattle.scr_orbit.specs.Orbits.{Orbit, IsZeroSumOrbit, turned_orbit, added_digits, solved_orbit, orbit_monoid}
use Rattle.scr_orbit.specs.PowerPuzzles.{IsPowerPuzzle, after_letter, part_turns}
use Rattle.scr_orbit.proofs.OrbitLaws.{zero_sum_laws, parity-turned}
use Rattle.scr_orbit.proofs.Orders.{TellsSolved, tells_orbit, tells_both}
use Rattle.scr_orbit.proofs.Parts.{ap_both, pair_monoid, IsSeenAs, IsSeenAs-whole, IsMonoid-two, IsMadeAt}
use Rattle.scr_orbit.proofs.TableTests.{All-from_test, and_three, is_still, is_zero_sum, IsZeroSumOrbit-from_test}
use Rattle.scr_notation.specs.declared.turn.Turn.TheVariants.{Face}
use Rattle.scr_notation.specs.Turning.{opposite, turn_merging}
use Rattle.scr_notation.proofs.FaceLaws.{face_powers, faces_numbered, quarters_of-face}
use Rattle.scr_orbit.proofs.PowerPuzzleLaws.{IsPowerPuzzle-from_test}
use Rattle.scr_orbit.proofs.TurnedAt.{IsTurned, IsTurned-two}
use Rattle.scr_cube.specs.Cube333.{CubeState, IsCube, cube_monoid, cube_quarters, cube_powers, solved_cube}

-- ---- a cube is its corners and its edges

pub same_cube : (c d : CubeState) → c.corners ≡ d.corners → c.edges ≡ d.edges → c ≡ d
same_cube c d a b = ap_both (λ corners edges. record { corners = corners; edges = edges }) a b

seen_as_pair : IsSeenAs cube_monoid (pair_monoid (orbit_monoid 8 3) (orbit_monoid 12 2)) (λ c. (c.corners, c.edges))
unfolding solved_cube
seen_as_pair = IsSeenAs-whole (λ p. record { corners = p.0; edges = p.1 }) (λ c. refl) (λ c r. refl) refl

-- sums of equal parities are equal
same_sum : (s t a b c d : ℕ) → s ≡ (a + c) % 2 → t ≡ (b + d) % 2 → a ≡ b → c ≡ d → s ≡ t
same_sum s t a b c d f g e h = f ∙ ap (λ z. (z + c) % 2) e ∙ ap (λ z. (b + z) % 2) h ∙ sym g

pub cube_laws : IsMonoid cube_monoid IsCube
unfolding solved_cube solved_orbit
cube_laws =
    let corners = zero_sum_laws 8 3 (lit< tt) in
    let edges = zero_sum_laws 12 2 (lit< tt) in
    IsMonoid-two cube_monoid (orbit_monoid 8 3) (orbit_monoid 12 2) _ seen_as_pair (IsZeroSumOrbit 8 3) (IsZeroSumOrbit 12 2) corners edges
    IsCube (λ c h. (h.corners, h.edges))
    (λ c r h k a b.
    let first = parity-turned 8 3 c.corners r.corners h.corners.pieces k.corners.pieces in
    let second = parity-turned 12 2 c.edges r.edges h.edges.pieces k.edges.pieces in
    record { corners = a; edges = b; same_parity = same_sum _ _ _ _ _ _ first second h.same_parity k.same_parity })
    (record { corners = corners.solved; edges = edges.solved; same_parity = refl })

-- ---- tests that the checker computes

unfoldable pub is_solved : CubeState → Bool
is_solved c = is_still 8 c.corners && is_still 12 c.edges

pub tells_solved : TellsSolved cube_monoid is_solved
unfolding is_solved
tells_solved = tells_both cube_monoid (orbit_monoid 8 3) (orbit_monoid 12 2) _ seen_as_pair (is_still 8) (is_still 12) (tells_orbit 8 3) (tells_orbit 12 2)

is_cube : CubeState → Bool
is_cube c = is_zero_sum 8 3 c.corners && (is_zero_sum 12 2 c.edges && (parity c.corners.pieces == parity c.edges.pieces))

IsCube-from_test : (c : CubeState) → is_cube c ≡ true → IsCube c
unfolding is_cube
IsCube-from_test c h =
    let parts = and_three (is_zero_sum 8 3 c.corners) (is_zero_sum 12 2 c.edges) (parity c.corners.pieces == parity c.edges.pieces) h in
    grind (arith, IsZeroSumOrbit-from_test 8 3 c.corners parts.0, IsZeroSumOrbit-from_test 12 2 c.edges parts.1)

pub All-quarters : All IsCube cube_quarters
unfolding is_cube
All-quarters = All-from_test is_cube IsCube IsCube-from_test cube_quarters refl

-- ---- what follows of that

pub lawful_cube : IsPowerPuzzle cube_powers IsCube opposite turn_merging
unfolding is_cube is_solved power turned_orbit solved_cube solved_orbit added_digits
lawful_cube =
    IsPowerPuzzle-from_test cube_powers IsCube (record { numbered = faces_numbered; powers = face_powers; few = lit≤ tt })
    cube_laws is_solved tells_solved is_cube IsCube-from_test refl

-- the cube after a turn, and it is valid
pub cube_turned : (c : CubeState) (corners edges : Orbit) (n : ℕ) → IsCube c
    → IsMadeAt (part_turns (λ r. r.corners) cube_powers) n (turned_orbit 3 c.corners) corners
    → IsMadeAt (part_turns (λ r. r.edges) cube_powers) n (turned_orbit 2 c.edges) edges
    → IsTurned cube_powers IsCube c n (record { corners = corners; edges = edges })
cube_turned c corners edges n own =
    IsTurned-two cube_powers lawful_cube c (record { corners = corners; edges = edges }) n own (orbit_monoid 8 3) (orbit_monoid 12 2) _ seen_as_pair

-- each turn of a face makes something of a cube
pub turned-some : (c : CubeState) (face amount : ℕ) → face < 6 → 0 < amount → amount < 4
    → (d : CubeState) × (after_letter cube_powers c (Face face 1 amount) ≡ Some d)
unfolding power_of
turned-some c face amount lt some few =
    let quarter = slice_get-get_or cube_quarters face solved_cube lt in (
      _,
      ap (λ o. option_map (cube_monoid.turned c) (option_and_then (power_of cube_monoid cube_quarters) o)) (quarters_of-face face amount some few)
          ∙ ap (λ o. option_map (cube_monoid.turned c) (option_map (λ r. power cube_monoid r amount) o)) quarter,
    )
