-- A turn brings at most four corners and four edges home.
use Rattle.std.proofs.Common.{◌≡◌, ℕ, zero, suc, ◌+◌, ◌*◌, ◌<◌, ◌≤◌, Bool, true, false, cond, List, [], ◌∷◌, length, Option, Some, refl, ap, ◌∙◌, subst, arith, eqb-true, eq-eqb, leb-true}
use Rattle.std.specs.Prelude.{◌==◌, ◌&&◌, not, max, nat_le, slice_index}
use Rattle.std.specs.List.{list_all}
use Rattle.std.proofs.Math.Nat.{mod-eq_of_lt, mul-suc}
use Rattle.std.proofs.lemmas.Bool.{and_parts, not-false, true≢false}
use Rattle.std.proofs.lemmas.List.Sums.{AllPass-from_list_all}
use Rattle.scr_combinatorics.specs.Play.{play}
use Rattle.scr_combinatorics.proofs.Picks.{pick-at, length-pick}
use Rattle.scr_combinatorics.proofs.PlayLaws.{map-some, play-empty, play-parts}
use Rattle.scr_draw.specs.Count.{count_below}
use Rattle.scr_draw.proofs.Counting.{count_step}
use Rattle.scr_orbit.specs.Orbits.{Orbit, IsOrbit, turned_orbit}
use Rattle.scr_orbit.specs.PowerPuzzles.{all_turns, letter_table}
use Rattle.scr_orbit.proofs.DigitLaws.{added_digits-at}
use Rattle.scr_orbit.proofs.OrbitLaws.{IsOrbit-zero_sum}
use Rattle.scr_orbit.proofs.Parts.{ap_both}
use Rattle.scr_orbit.proofs.PowerLaws.{All-got}
use Rattle.scr_orbit.proofs.TablesOnLiterals.{turns_on_literals}
use Rattle.scr_notation.specs.TurnNumbers.{face_turn_at}
use Rattle.scr_cube.specs.Cube333.{CubeState, IsCube, cube_monoid, cube_powers, solved_cube}
use Rattle.scr_cube.proofs.Laws333.{lawful_cube}
use Rattle.scr_search.specs.Orderly.{after_turn}
use Rattle.scr_search.proofs.Admissible.{IsCube-turned}
use Rattle.scr_twophase.specs.Minima.{is_astray, astray, astray_most}

-- ---- any puzzle

-- What falls by at most so much at each turn falls by at most so much for each turn of a word.
pub falls_along : {S : Type 0} (after : S → ℕ → Option S) (IsValid : S → Type 0) (far : S → ℕ) (each : ℕ)
    → ((s r : S) (t : ℕ) → IsValid s → after s t ≡ Some r → IsValid r × (far s ≤ far r + each))
    → (s e : S) (w : List ℕ) → IsValid s → play after s w ≡ Some e → far s ≤ far e + each * length w
falls_along after IsValid far each falls s e [] own played = grind (arith, play-empty)
falls_along after IsValid far each falls s e (t ∷ w) own played =
    let parts = play-parts after s e t w played in
    let one = falls s parts.0 t own parts.1 in
    omega (arith, one.1, falls_along after IsValid far each falls parts.0 e w one.0 parts.2, mul-suc each (length w))

-- ---- counting what is astray

pub astray-none : (pieces digits : List ℕ) → astray pieces digits 0 ≡ 0
unfolding astray count_below
astray-none pieces digits = refl

one_more : (pieces digits : List ℕ) (place : ℕ) (b : Bool) → is_astray pieces digits place ≡ b
    → astray pieces digits (place + 1) ≡ astray pieces digits place + cond b 1 0
unfolding astray
one_more pieces digits place b e = grind (arith, count_step (is_astray pieces digits) place)

pub astray-more : (pieces digits : List ℕ) (place : ℕ)
    → (slice_index pieces place ≡ place → slice_index digits place ≡ 0 → ⊥)
    → astray pieces digits (place + 1) ≡ astray pieces digits place + 1
astray-more pieces digits place other = by_test (slice_index pieces place == place) (slice_index digits place == 0) refl refl
  where
    by_test : (a b : Bool) → (slice_index pieces place == place) ≡ a → (slice_index digits place == 0) ≡ b
        → astray pieces digits (place + 1) ≡ astray pieces digits place + 1
    by_test true true e f =
        absurd (other (eqb-true (slice_index pieces place) place e) (eqb-true (slice_index digits place) 0 f))
    by_test true false e f = one_more pieces digits place true (ap not (ap_both (λ x y. x && y) e f))
    by_test false b e f = one_more pieces digits place true (ap not (ap_both (λ x y. x && y) e f))

pub astray-same : (pieces digits : List ℕ) (place : ℕ) → slice_index pieces place ≡ place → slice_index digits place ≡ 0
    → astray pieces digits (place + 1) ≡ astray pieces digits place
astray-same pieces digits place e f = grind (arith, eq-eqb, one_more, ap_both)

pub astray_most-is : (c : CubeState) → IsCube c
    → max (astray c.corners.pieces c.corners.digits (length c.corners.pieces)) (astray c.edges.pieces c.edges.digits (length c.edges.pieces))
    ≡ astray_most c
unfolding astray_most
astray_most-is c own = grind arith

-- ---- one turn of an orbit

-- Where what passes no third test passes the first as the second, the first has no more than both others.
count_both : (p q r : ℕ → Bool) (n : ℕ) → ((k : ℕ) → k < n → r k ≡ false → p k ≡ q k)
    → count_below p n ≤ count_below q n + count_below r n
unfolding count_below
count_both p q r zero h = omega arith
count_both p q r (suc n) h =
    omega (arith, count_both p q r n (λ k lt. h k (omega arith)), last (p n) (q n) (r n) (h n (omega arith)))
  where
    last : (a b c : Bool) → (c ≡ false → a ≡ b) → cond a 1 0 ≤ cond b 1 0 + cond c 1 0
    last false b c same = omega arith
    last true true c same = omega arith
    last true false true same = omega arith
    last true false false same = absurd (true≢false (same refl))

-- what stands where a turn moves nothing stays as it is
stays : (n m : ℕ) (o r : Orbit) → IsOrbit n m o → IsOrbit n m r → (k : ℕ) → k < n
    → is_astray r.pieces r.digits k ≡ false
    → is_astray o.pieces o.digits k ≡ is_astray (turned_orbit m o r).pieces (turned_orbit m o r).digits k
unfolding turned_orbit
stays n m o r own turn k lt still =
    grind (arith, and_parts, not-false, eqb-true, length-pick, pick-at, added_digits-at, mod-eq_of_lt)

-- so no more pieces come home than it moves
brought_home : (n m : ℕ) (o r : Orbit) → IsOrbit n m o → IsOrbit n m r
    → astray o.pieces o.digits n ≤ astray (turned_orbit m o r).pieces (turned_orbit m o r).digits n + astray r.pieces r.digits n
unfolding astray
brought_home n m o r own turn =
    count_both (is_astray o.pieces o.digits) (is_astray (turned_orbit m o r).pieces (turned_orbit m o r).digits) (is_astray r.pieces r.digits) n
    (stays n m o r own turn)

-- ---- the turns of a cube

moves_four : CubeState → Bool
moves_four r = nat_le (astray r.corners.pieces r.corners.digits 8) 4 && nat_le (astray r.edges.pieces r.edges.digits 12) 4

all_move_four : list_all moves_four (all_turns cube_powers) ≡ true
unfolding moves_four turns_on_literals solved_cube astray count_below
all_move_four = refl

by_turn : (c r : CubeState) → IsCube c → IsCube r → moves_four r ≡ true
    → astray_most c ≤ astray_most (cube_monoid.turned c r) + 4
unfolding moves_four astray_most
by_turn c r own turn few = grind (arith, and_parts, brought_home, IsOrbit-zero_sum, leb-true)

turned_once : (c d : CubeState) (t : ℕ) → IsCube c → after_turn c t ≡ Some d
    → IsCube d × (astray_most c ≤ astray_most d + 4)
turned_once c d t own e =
    let made = map-some (cube_monoid.turned c) (letter_table cube_powers (face_turn_at t)) d e in
    let few = All-got (λ r. moves_four r ≡ true) (all_turns cube_powers) t made.0
    (AllPass-from_list_all moves_four (all_turns cube_powers) all_move_four) (lawful_cube.numbered t ∙ made.1) in
    let near = by_turn c made.0 own (lawful_cube.lawful.turns (face_turn_at t) made.0 made.1) few in
    (IsCube-turned c d t own e, subst (λ s. astray_most c ≤ astray_most s + 4) made.2 near)

-- a word brings no more pieces home than four of each kind at each turn
pub brought_along : (c d : CubeState) (w : List ℕ) → IsCube c → play after_turn c w ≡ Some d
    → astray_most c ≤ astray_most d + 4 * length w
brought_along = falls_along after_turn IsCube astray_most 4 turned_once
