-- Laws of the turns of a Skewb: with its states they are a monoid, each axis's turn has order 3, and what follows of
-- that.
use Rattle.std.proofs.Common.{◌≡◌, ℕ, ◌+◌, ◌%◌, ◌<◌, Bool, true, List, refl, arith, lit<, lit≤, eqb-true}
use Rattle.std.specs.Prelude.{◌==◌, ◌&&◌, slice_index}
use Rattle.std.proofs.lemmas.Bool.{and_parts}
use Rattle.scr_combinatorics.specs.Lists.{total, pick}
use Rattle.scr_combinatorics.specs.Permutations.{parity, permutation_at, half_at}
use Rattle.scr_orbit.specs.Monoids.{IsMonoid}
use Rattle.scr_orbit.specs.Orbits.{Orbit, IsOrbit, turned_orbit, orbit_monoid}
use Rattle.scr_orbit.specs.PowerPuzzles.{IsPowerPuzzle, all_turns, part_turns}
use Rattle.scr_orbit.proofs.OrbitLaws.{orbit_laws, IsOrbit-turned, total-turned}
use Rattle.scr_orbit.proofs.Orders.{TellsSolved}
use Rattle.scr_orbit.proofs.Parts.{ap_three, pair_monoid, IsMonoid-pair, IsMonoid-seen, IsSeenAs, IsSeenAs-whole, IsMadeAt, IsMadeAt-part, IsMadeAt-both}
use Rattle.scr_orbit.proofs.TableTests.{and_three, is_still, still, is_orbit, IsOrbit-from_test}
use Rattle.scr_notation.specs.Turning.{opposite, turn_merging}
use Rattle.scr_notation.proofs.AxisLaws.{axis_powers, axes_numbered}
use Rattle.scr_orbit.proofs.PowerPuzzleLaws.{IsPowerPuzzle-from_test}
use Rattle.scr_orbit.proofs.TurnedAt.{IsTurned, IsTurned-seen}
use Rattle.scr_tetra.specs.Skewb.{SkewbState, class_of, IsSkewb, skewb_monoid, skewb_powers, solved_skewb}
use Rattle.scr_tetra.proofs.EvenTurned.{even-turned}
use Rattle.scr_tetra.proofs.SkewbOnLiterals.{skewb_on_literals}
use Rattle.scr_combinatorics.proofs.EvenLists.{IsEvenPermutation, passes_all, test-even}

-- ---- what even lists add up to

-- a number that is read from even lists adds up modulo 3 where one list is picked by another, as a test
adds_with : (List ℕ → ℕ) → List ℕ → List ℕ → Bool
adds_with f ps qs = f (pick ps qs) == (f ps + f qs) % 3

adds_up : (List ℕ → ℕ) → ℕ → Bool
adds_up f n = passes_all (λ ps. passes_all (adds_with f ps) n) n

adds-even : (f : List ℕ → ℕ) (n : ℕ) (ps qs : List ℕ) → 1 < n → adds_up f n ≡ true → IsEvenPermutation n ps
    → IsEvenPermutation n qs → f (pick ps qs) ≡ (f ps + f qs) % 3
unfolding adds_up adds_with
adds-even f n ps qs le all h k =
    eqb-true (f (pick ps qs)) ((f ps + f qs) % 3)
    (test-even (adds_with f ps) n qs le (test-even (λ ps. passes_all (adds_with f ps) n) n ps le all h) k)

-- the class of the four
class-pick : (ps qs : List ℕ) → IsEvenPermutation 4 ps → IsEvenPermutation 4 qs
    → class_of (pick ps qs) ≡ (class_of ps + class_of qs) % 3
unfolding adds_up adds_with passes_all half_at permutation_at
class-pick ps qs h k = adds-even class_of 4 ps qs (lit< tt) refl h k

-- and the first piece of the three
first_of : List ℕ → ℕ
first_of ps = slice_index ps 0

first-pick : (ps qs : List ℕ) → IsEvenPermutation 3 ps → IsEvenPermutation 3 qs
    → slice_index (pick ps qs) 0 ≡ (slice_index ps 0 + slice_index qs 0) % 3
unfolding first_of adds_up adds_with passes_all half_at permutation_at
first-pick ps qs h k = adds-even first_of 3 ps qs (lit< tt) refl h k

-- ---- turns keep a Skewb valid

-- what sums up with something to 0 does so where both are added to
sums-added : (s t a b c d : ℕ) → s % 3 ≡ (a + b) % 3 → t ≡ (c + d) % 3 → (a + c) % 3 ≡ 0 → (b + d) % 3 ≡ 0
    → (s + t) % 3 ≡ 0
sums-added s t a b c d e f g h = omega (arith, e, f, g, h)

pub IsSkewb-turned : (s r : SkewbState) → IsSkewb s → IsSkewb r → IsSkewb (skewb_monoid.turned s r)
unfolding turned_orbit
IsSkewb-turned s r h k = record {
  four = IsOrbit-turned 4 3 s.four r.four (lit< tt) h.four k.four;
  three = IsOrbit-turned 3 3 s.three r.three (lit< tt) h.three k.three;
  centres = IsOrbit-turned 6 1 s.centres r.centres (lit< tt) h.centres k.centres;
  even_four = even-turned 4 3 s.four r.four h.four.pieces k.four.pieces h.even_four k.even_four;
  even_three = even-turned 3 3 s.three r.three h.three.pieces k.three.pieces h.even_three k.even_three;
  even_centres = even-turned 6 1 s.centres r.centres h.centres.pieces k.centres.pieces h.even_centres k.even_centres;
  twists_of_three =
      sums-added _ _ _ _ _ _ (total-turned 3 3 s.three r.three h.three k.three)
      (class-pick s.four.pieces r.four.pieces (record { permutation = h.four.pieces; even = h.even_four }) (record { permutation = k.four.pieces; even = k.even_four }))
      h.twists_of_three k.twists_of_three;
  twists_of_four =
      sums-added _ _ _ _ _ _ (total-turned 4 3 s.four r.four h.four k.four)
      (first-pick s.three.pieces r.three.pieces (record { permutation = h.three.pieces; even = h.even_three }) (record { permutation = k.three.pieces; even = k.even_three }))
      h.twists_of_four k.twists_of_four;
}

-- ---- tests that the checker computes

unfoldable pub moves_nothing : SkewbState → Bool
moves_nothing r = is_still 4 r.four && (is_still 3 r.three && is_still 6 r.centres)

pub tells_skewb : TellsSolved skewb_monoid moves_nothing
unfolding moves_nothing skewb_on_literals
tells_skewb = record {
  shows = λ r h.
      let parts = and_three (is_still 4 r.four) (is_still 3 r.three) (is_still 6 r.centres) h in
      ap_three (λ four three centres. record { four = four; three = three; centres = centres }) (still 4 r.four parts.0) (still 3 r.three parts.1)
      (still 6 r.centres parts.2);
  passes = refl;
}

are_orbits : SkewbState → Bool
are_orbits s = is_orbit 4 3 s.four && (is_orbit 3 3 s.three && is_orbit 6 1 s.centres)

are_even : SkewbState → Bool
are_even s = (parity s.four.pieces == 0) && ((parity s.three.pieces == 0) && (parity s.centres.pieces == 0))

sums_up : SkewbState → Bool
sums_up s =
    ((total s.three.digits + class_of s.four.pieces) % 3 == 0) && ((total s.four.digits + slice_index s.three.pieces 0) % 3 == 0)

is_skewb : SkewbState → Bool
is_skewb s = are_orbits s && (are_even s && sums_up s)

IsSkewb-from_test : (s : SkewbState) → is_skewb s ≡ true → IsSkewb s
unfolding is_skewb are_orbits are_even sums_up
IsSkewb-from_test s h =
    let parts = and_three (are_orbits s) (are_even s) (sums_up s) h in
    let orbits = and_three (is_orbit 4 3 s.four) (is_orbit 3 3 s.three) (is_orbit 6 1 s.centres) parts.0 in
    let even = and_three (parity s.four.pieces == 0) (parity s.three.pieces == 0) (parity s.centres.pieces == 0) parts.1 in
    let sums = and_parts ((total s.three.digits + class_of s.four.pieces) % 3 == 0) ((total s.four.digits + slice_index s.three.pieces 0) % 3 == 0) parts.2 in
    record {
      four = IsOrbit-from_test 4 3 s.four orbits.0;
      three = IsOrbit-from_test 3 3 s.three orbits.1;
      centres = IsOrbit-from_test 6 1 s.centres orbits.2;
      even_four = eqb-true (parity s.four.pieces) 0 even.0;
      even_three = eqb-true (parity s.three.pieces) 0 even.1;
      even_centres = eqb-true (parity s.centres.pieces) 0 even.2;
      twists_of_three = eqb-true ((total s.three.digits + class_of s.four.pieces) % 3) 0 sums.0;
      twists_of_four = eqb-true ((total s.four.digits + slice_index s.three.pieces 0) % 3) 0 sums.1;
    }

pub IsSkewb-solved : IsSkewb solved_skewb
unfolding is_skewb are_orbits are_even sums_up skewb_on_literals
IsSkewb-solved = IsSkewb-from_test solved_skewb refl

-- ---- the monoid, and what follows of that

-- a state is its three orbits
parts_of : SkewbState → Orbit × (Orbit × Orbit)
parts_of s = (s.four, (s.three, s.centres))

seen_by_parts : IsSeenAs skewb_monoid (pair_monoid (orbit_monoid 4 3) (pair_monoid (orbit_monoid 3 3) (orbit_monoid 6 1))) parts_of
unfolding parts_of skewb_on_literals
seen_by_parts = IsSeenAs-whole (λ p. record { four = p.0; three = p.1.0; centres = p.1.1 }) (λ s. refl) (λ s r. refl) refl

pub skewb_laws : IsMonoid skewb_monoid IsSkewb
unfolding parts_of
skewb_laws =
    IsMonoid-seen skewb_monoid (pair_monoid (orbit_monoid 4 3) (pair_monoid (orbit_monoid 3 3) (orbit_monoid 6 1))) parts_of seen_by_parts
    (λ p. IsOrbit 4 3 p.0 × (IsOrbit 3 3 p.1.0 × IsOrbit 6 1 p.1.1))
    (IsMonoid-pair (orbit_monoid 4 3) (pair_monoid (orbit_monoid 3 3) (orbit_monoid 6 1)) (IsOrbit 4 3) (λ p. IsOrbit 3 3 p.0 × IsOrbit 6 1 p.1)
    (orbit_laws 4 3 (lit< tt))
    (IsMonoid-pair (orbit_monoid 3 3) (orbit_monoid 6 1) (IsOrbit 3 3) (IsOrbit 6 1) (orbit_laws 3 3 (lit< tt)) (orbit_laws 6 1 (lit< tt))))
    IsSkewb (λ s h. (h.four, (h.three, h.centres))) IsSkewb-turned IsSkewb-solved

pub lawful_skewb : IsPowerPuzzle skewb_powers IsSkewb opposite turn_merging
unfolding is_skewb are_orbits are_even sums_up moves_nothing skewb_on_literals
lawful_skewb =
    IsPowerPuzzle-from_test skewb_powers IsSkewb (record { numbered = axes_numbered; powers = axis_powers; few = lit≤ tt }) skewb_laws
    moves_nothing tells_skewb is_skewb IsSkewb-from_test refl

-- the Skewb after a turn, and it is valid
pub skewb_turned : (s : SkewbState) (four three centres : Orbit) (n : ℕ) → IsSkewb s
    → IsMadeAt (part_turns (λ r. r.four) skewb_powers) n (turned_orbit 3 s.four) four
    → IsMadeAt (part_turns (λ r. r.three) skewb_powers) n (turned_orbit 3 s.three) three
    → IsMadeAt (part_turns (λ r. r.centres) skewb_powers) n (turned_orbit 1 s.centres) centres
    → IsTurned skewb_powers IsSkewb s n (record { four = four; three = three; centres = centres })
unfolding parts_of
skewb_turned s four three centres n own first second third =
    IsTurned-seen skewb_powers lawful_skewb s (record { four = four; three = three; centres = centres }) n own seen_by_parts
    (IsMadeAt-both (IsMadeAt-part (λ r. r.four) (all_turns skewb_powers) first)
    (IsMadeAt-both (IsMadeAt-part (λ r. r.three) (all_turns skewb_powers) second) (IsMadeAt-part (λ r. r.centres) (all_turns skewb_powers) third)))
