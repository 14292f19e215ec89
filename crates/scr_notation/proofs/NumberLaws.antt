-- Each turn of a kind has one number below the kind's count, and each such number is one of its turns'.
use Rattle.std.proofs.Common.{◌≡◌, ℕ, ◌+◌, ◌*◌, ◌/◌, ◌%◌, ◌-◌, ◌<◌, ◌≤◌, Bool, true, false, IsTrue, cond, refl, ap, ◌∙◌, sym, arith, eqb, ne_eqb, leb-true, ltb-true, lt-ltb, eq-eqb, ⊎_elim}
use Rattle.std.specs.Prelude.{◌&&◌, ◌==◌, nat_le, nat_lt, slice_index, ℤ, pos, negsuc, ◌-ℤ◌}
use Rattle.std.specs.List.{list_any}
use Rattle.std.proofs.lemmas.Bool.{false≢true, cases_lt}
use Rattle.std.proofs.lemmas.Bool.Decides.{nat_tests}
use Rattle.std.proofs.lemmas.Int.{ints}
use Rattle.scr_notation.specs.declared.event.Event.TheVariants.{C333}
use Rattle.scr_notation.specs.declared.event.Kind.{Kind}
use Rattle.scr_notation.specs.declared.event.Kind.TheVariants.{Faces, Axes, LayersAndTwist, PinSets, WideTurns}
use Rattle.scr_notation.specs.declared.turn.Turn.{Turn}
use Rattle.scr_notation.specs.declared.turn.Turn.TheVariants.{Face, Axis, Tip, Layers, Twist, Pins, Over, Wide}
use Rattle.scr_notation.specs.Event.{kind_of}
use Rattle.scr_notation.specs.Kinds.{IsKind}
use Rattle.scr_notation.specs.Amounts.{is_amount}
use Rattle.scr_notation.specs.Faces.{is_face_turn}
use Rattle.scr_notation.specs.Axes.{is_axis_turn}
use Rattle.scr_notation.specs.Layers.{are_still, is_layer_turn}
use Rattle.scr_notation.specs.Pins.{pin_sets, is_clock_turn}
use Rattle.scr_notation.specs.Wide.{is_wide_turn}
use Rattle.scr_notation.specs.Turns.{has_turn}
use Rattle.scr_notation.specs.TurnNumbers.{turn_count, turn_at, face_turn_at, axis_turn_at, layer_turn_at, clock_turn_at, wide_turn_at}
use Rattle.scr_notation.proofs.LayersLaws.{IsTwelfths, layers_parts}
use Rattle.scr_notation.specs.Ranges.{all_below}
use Rattle.scr_notation.proofs.Below.{and_first, and_second, at_below, place_of}

-- ---- turns of faces

-- what a face turn is
pub record IsFaceTurn (near far face depth amount : ℕ) : Type 0 where
  pub face_below : face < 6
  pub some_layer : 1 ≤ depth
  pub near_layers : face < 3 → depth ≤ near
  pub far_layers : 3 ≤ face → depth ≤ far
  pub some_quarter : 0 < amount
  pub no_whole : amount < 4

pub face_turn_parts : (near far face depth amount : ℕ) → IsTrue (is_face_turn near far (Face face depth amount))
    → IsFaceTurn near far face depth amount
face_turn_parts near far face depth amount h = record {
  face_below = grind (arith, nat_tests);
  some_layer = grind (arith, nat_tests);
  near_layers = λ l. grind (arith, nat_tests);
  far_layers = λ l. grind (arith, nat_tests);
  some_quarter = grind (arith, nat_tests);
  no_whole = grind (arith, nat_tests);
}

pub face_turn_of_parts : (near far face depth amount : ℕ) → IsFaceTurn near far face depth amount
    → IsTrue (is_face_turn near far (Face face depth amount))
face_turn_of_parts near far face depth amount p =
    let low = p.near_layers in let high = p.far_layers in let six = p.face_below in let some = p.some_layer in
    let quarter = p.some_quarter in let whole = p.no_whole in grind (arith, nat_tests)

face_at : (near far face depth amount : ℕ) → IsFaceTurn near far face depth amount
    → face_turn_at (18 * (depth - 1) + 3 * face + (amount - 1)) ≡ Face face depth amount
unfolding face_turn_at
face_at near far f d a p =
    let n : ℕ = 18 * (d - 1) + 3 * f + (a - 1) in
    let face : n / 3 % 6 ≡ f = omega (arith, p.face_below, p.some_layer, p.some_quarter, p.no_whole) in
    let depth : n / 18 + 1 ≡ d = omega (arith, p.face_below, p.some_layer, p.some_quarter, p.no_whole) in
    let amount : n % 3 + 1 ≡ a = omega (arith, p.some_quarter, p.no_whole) in
    cc

face_number_below : (near far face depth amount : ℕ) → IsKind (Faces near far) → IsFaceTurn near far face depth amount
    → 18 * (depth - 1) + 3 * face + (amount - 1) < 9 * (near + far)
face_number_below near far face depth amount k p =
    ⊎_elim (λ low. omega (arith, p.near_layers low)) (λ high. omega (arith, p.far_layers (omega arith))) (cases_lt face 3)

face_numbered : (near far : ℕ) → IsKind (Faces near far) → (t : Turn) → IsTrue (is_face_turn near far t)
    → (n : ℕ) × (n < 9 * (near + far)) × (face_turn_at n ≡ t)
face_numbered near far k (Face f d a) h =
    let p = face_turn_parts near far f d a h in
    (18 * (d - 1) + 3 * f + (a - 1), face_number_below near far f d a k p, face_at near far f d a p)
face_numbered near far k _ h = absurd (false≢true h)

face_turns : (near far n : ℕ) → IsKind (Faces near far) → n < 9 * (near + far)
    → IsTrue (is_face_turn near far (face_turn_at n))
unfolding face_turn_at
face_turns near far n k l =
    face_turn_of_parts near far (n / 3 % 6) (n / 18 + 1) (n % 3 + 1) (record {
      face_below = omega arith;
      some_layer = omega arith;
      near_layers = λ low. omega arith;
      far_layers = λ high. omega arith;
      some_quarter = omega arith;
      no_whole = omega arith;
    })

-- ---- turns of axes and tips

-- what a turn about an axis or of a tip is
pub record IsThirds (axis amount : ℕ) : Type 0 where
  pub axis_below : axis < 4
  pub some_third : 0 < amount
  pub no_whole : amount < 3

pub thirds_parts : (axis amount : ℕ) → IsTrue (nat_lt axis 4 && is_amount 3 amount) → IsThirds axis amount
thirds_parts axis amount h = record {
  axis_below = grind (arith, nat_tests);
  some_third = grind (arith, nat_tests);
  no_whole = grind (arith, nat_tests);
}

pub thirds_of_parts : (axis amount : ℕ) → IsThirds axis amount → IsTrue (nat_lt axis 4 && is_amount 3 amount)
thirds_of_parts axis amount p =
    let below = p.axis_below in let some = p.some_third in let whole = p.no_whole in grind (arith, nat_tests)

pub axis_at : (a m : ℕ) → IsThirds a m → axis_turn_at (2 * a + (m - 1)) ≡ Axis a m
unfolding axis_turn_at
axis_at a m p =
    let n : ℕ = 2 * a + (m - 1) in
    let first : nat_lt n 8 ≡ true = lt-ltb n 8 (omega (arith, p.axis_below, p.no_whole)) in
    let axis : n / 2 ≡ a = omega (arith, p.some_third, p.no_whole) in
    let amount : n % 2 + 1 ≡ m = omega (arith, p.some_third, p.no_whole) in
    ap (λ b. cond b (Axis (n / 2) (n % 2 + 1)) (Tip ((n - 8) / 2) (n % 2 + 1))) first ∙ cc

pub tip_at : (a m : ℕ) → IsThirds a m → axis_turn_at (8 + 2 * a + (m - 1)) ≡ Tip a m
unfolding axis_turn_at
tip_at a m p =
    let n : ℕ = 8 + 2 * a + (m - 1) in
    let behind : nat_lt n 8 ≡ false = grind (arith, nat_tests, p.some_third) in
    let tip : (n - 8) / 2 ≡ a = omega (arith, p.some_third, p.no_whole) in
    let amount : n % 2 + 1 ≡ m = omega (arith, p.some_third, p.no_whole) in
    ap (λ b. cond b (Axis (n / 2) (n % 2 + 1)) (Tip ((n - 8) / 2) (n % 2 + 1))) behind ∙ cc

axis_numbered : (a m : ℕ) → IsThirds a m → (n : ℕ) × (n < 8) × (axis_turn_at n ≡ Axis a m)
axis_numbered a m p = (2 * a + (m - 1), omega (arith, p.axis_below, p.no_whole), axis_at a m p)

tip_numbered : (a m : ℕ) → IsThirds a m → (n : ℕ) × (n < 16) × (axis_turn_at n ≡ Tip a m)
tip_numbered a m p = (8 + 2 * a + (m - 1), omega (arith, p.axis_below, p.no_whole), tip_at a m p)

axes_numbered : (tips : Bool) (t : Turn) → IsTrue (is_axis_turn tips t)
    → (n : ℕ) × (n < cond tips 16 8) × (axis_turn_at n ≡ t)
axes_numbered true (Axis a m) h = let n = axis_numbered a m (thirds_parts a m h) in (n.0, omega (arith, n.1), n.2)
axes_numbered false (Axis a m) h = axis_numbered a m (thirds_parts a m h)
axes_numbered true (Tip a m) h = tip_numbered a m (thirds_parts a m h)
axes_numbered false (Tip a m) h = absurd (false≢true h)
axes_numbered tips _ h = absurd (false≢true h)

with_tips : IsTrue (all_below (λ n. is_axis_turn true (axis_turn_at n)) 16)
unfolding all_below axis_turn_at
with_tips = refl

without_tips : IsTrue (all_below (λ n. is_axis_turn false (axis_turn_at n)) 8)
unfolding all_below axis_turn_at
without_tips = refl

axes_turns : (tips : Bool) (n : ℕ) → n < cond tips 16 8 → IsTrue (is_axis_turn tips (axis_turn_at n))
axes_turns true n l = at_below (λ k. is_axis_turn true (axis_turn_at k)) 16 n with_tips l
axes_turns false n l = at_below (λ k. is_axis_turn false (axis_turn_at k)) 8 n without_tips l

-- ---- turns of a Square-1

-- an amount of twelfths has a place among the twelve
twelfths_place : (z : ℤ) → IsTwelfths z → (k : ℕ) × (k < 12) × (pos k -ℤ pos 5 ≡ z)
twelfths_place (pos n) t = let l : n ≤ 6 = omega (arith, ints, t.high) in (n + 5, omega arith, omega (arith, ints))
twelfths_place (negsuc n) t = let l : n ≤ 4 = omega (arith, ints, t.low) in (4 - n, omega arith, omega (arith, ints))

-- the twelve times twelve stand at their numbers, but for (0,0)
layers_at : (i j : ℕ) (top bottom : ℤ) → i < 12 → j < 12 → pos i -ℤ pos 5 ≡ top → pos j -ℤ pos 5 ≡ bottom
    → are_still top bottom ≡ false → layer_turn_at (12 * i + j) ≡ Layers top bottom
unfolding layer_turn_at
layers_at i j top bottom l m e f some =
    let n : ℕ = 12 * i + j in
    let row : n / 12 ≡ i = omega arith in
    let column : n % 12 ≡ j = omega arith in
    let other : eqb n 65 ≡ false = ne_eqb n 65 (λ q.
    let i_five : i ≡ 5 = omega arith in
    let j_five : j ≡ 5 = omega arith in
    let top_still : top ≡ pos 0 = sym e ∙ ap (λ k. pos k -ℤ pos 5) i_five in
    let bottom_still : bottom ≡ pos 0 = sym f ∙ ap (λ k. pos k -ℤ pos 5) j_five in
    false≢true (sym some ∙ ap (λ z. are_still z bottom) top_still ∙ ap (are_still (pos 0)) bottom_still)) in
    ap (λ b. cond b Twist (Layers (pos (n / 12) -ℤ pos 5) (pos (n % 12) -ℤ pos 5))) other ∙ cc

layers_numbered : (t : Turn) → IsTrue (is_layer_turn t) → (n : ℕ) × (n < 144) × (layer_turn_at n ≡ t)
unfolding layer_turn_at
layers_numbered (Layers top bottom) h =
    let p = layers_parts top bottom h in
    let i = twelfths_place top p.top_within in
    let j = twelfths_place bottom p.bottom_within in
    (12 * i.0 + j.0, omega (arith, i.1, j.1), layers_at i.0 j.0 top bottom i.1 j.1 i.2 j.2 p.some)
layers_numbered Twist h = (65, omega arith, refl)
layers_numbered _ h = absurd (false≢true h)

layers_turns : IsTrue (all_below (λ n. is_layer_turn (layer_turn_at n)) 144)
unfolding all_below layer_turn_at
layers_turns = refl

-- ---- turns of a Clock

pins_numbered : (k p a : ℕ) → k < 9 → a < 12 → slice_index pin_sets k ≡ p
    → (n : ℕ) × (n < 109) × (clock_turn_at n ≡ Pins p a)
unfolding clock_turn_at
pins_numbered k p a l m e =
    let n = k * 12 + a in
    let r : (k * 12 + a) / 12 ≡ k = omega arith in
    let s : (k * 12 + a) % 12 ≡ a = omega arith in
    let no : eqb (k * 12 + a) 108 ≡ false = ne_eqb (k * 12 + a) 108 (λ q. omega arith) in
    let at : Pins (slice_index pin_sets (n / 12)) (n % 12) ≡ Pins p a = ap (λ q. Pins (slice_index pin_sets q) (n % 12)) r ∙ ap (λ q. Pins (slice_index pin_sets k) q) s ∙ ap (λ q. Pins q a) e in
    (n, omega arith, ap (λ b. cond b Over (Pins (slice_index pin_sets (n / 12)) (n % 12))) no ∙ at)

pub below_twelve : (s : Bool) (a : ℕ) → IsTrue (s && nat_le a 11) → a < 12
below_twelve s a h = let l : a ≤ 11 = leb-true a 11 (and_second s (nat_le a 11) h) in omega arith

clock_numbered : (t : Turn) → IsTrue (is_clock_turn t) → (n : ℕ) × (n < 109) × (clock_turn_at n ≡ t)
unfolding clock_turn_at
clock_numbered (Pins p a) h =
    let k = place_of pin_sets p (and_first (list_any (λ set. set == p) pin_sets) (nat_le a 11) h) in
    pins_numbered k.0 p a k.1 (below_twelve (list_any (λ set. set == p) pin_sets) a h) k.2
clock_numbered Over h = (108, omega arith, refl)
clock_numbered _ h = absurd (false≢true h)

clock_turns : IsTrue (all_below (λ n. is_clock_turn (clock_turn_at n)) 109)
unfolding all_below clock_turn_at
clock_turns = refl

-- ---- turns of a Megaminx

wide_at : (letter : ℕ) (plus : Bool) → wide_turn_at (2 * letter + cond plus 0 1) ≡ Wide letter plus
unfolding wide_turn_at
wide_at letter true =
    let first : (2 * letter + 0) / 2 ≡ letter = omega arith in
    let plus : eqb ((2 * letter + 0) % 2) 0 ≡ true = eq-eqb ((2 * letter + 0) % 2) 0 (omega arith) in
    cc
wide_at letter false =
    let first : (2 * letter + 1) / 2 ≡ letter = omega arith in
    let minus : eqb ((2 * letter + 1) % 2) 0 ≡ false = ne_eqb ((2 * letter + 1) % 2) 0 (λ q. omega arith) in
    cc

wide_numbered : (t : Turn) → IsTrue (is_wide_turn t) → (n : ℕ) × (n < 6) × (wide_turn_at n ≡ t)
wide_numbered (Wide letter true) h = let l = ltb-true letter 3 h in (2 * letter + 0, omega (arith, l), wide_at letter true)
wide_numbered (Wide letter false) h = let l = ltb-true letter 3 h in (2 * letter + 1, omega (arith, l), wide_at letter false)
wide_numbered _ h = absurd (false≢true h)

wide_turns : IsTrue (all_below (λ n. is_wide_turn (wide_turn_at n)) 6)
unfolding all_below wide_turn_at
wide_turns = refl

-- ---- all kinds

-- each turn of a kind has a number
pub numbered : (kind : Kind) (t : Turn) → IsKind kind → IsTrue (has_turn kind t)
    → (n : ℕ) × (n < turn_count kind) × (turn_at kind n ≡ t)
unfolding turn_at
numbered (Faces near far) t k h = face_numbered near far k t h
numbered (Axes tips) t k h = axes_numbered tips t h
numbered LayersAndTwist t k h = layers_numbered t h
numbered PinSets t k h = clock_numbered t h
numbered WideTurns t k h = wide_numbered t h

-- and each number below the count is a turn's
pub has_turn_at : (kind : Kind) (n : ℕ) → IsKind kind → n < turn_count kind → IsTrue (has_turn kind (turn_at kind n))
unfolding turn_at
has_turn_at (Faces near far) n k l = face_turns near far n k l
has_turn_at (Axes tips) n k l = axes_turns tips n l
has_turn_at LayersAndTwist n k l = at_below (λ i. is_layer_turn (layer_turn_at i)) 144 n layers_turns l
has_turn_at PinSets n k l = at_below (λ i. is_clock_turn (clock_turn_at i)) 109 n clock_turns l
has_turn_at WideTurns n k l = at_below (λ i. is_wide_turn (wide_turn_at i)) 6 n wide_turns l

-- the turns of a 3x3x3 are those of its faces
pub turns_333 : turn_at (kind_of C333) ≡ face_turn_at
unfolding turn_at
turns_333 = refl

-- ---- the number of a turn, by what it is

pub at_face : (kind : Kind) (f d a : ℕ) → IsTrue (has_turn kind (Face f d a))
    → turn_at kind (18 * (d - 1) + 3 * f + (a - 1)) ≡ Face f d a
unfolding turn_at
at_face (Faces near far) f d a h = face_at near far f d a (face_turn_parts near far f d a h)
at_face _ f d a h = absurd (false≢true h)

pub at_axis : (kind : Kind) (a m : ℕ) → IsTrue (has_turn kind (Axis a m)) → turn_at kind (2 * a + (m - 1)) ≡ Axis a m
unfolding turn_at
at_axis (Axes tips) a m h = axis_at a m (thirds_parts a m h)
at_axis _ a m h = absurd (false≢true h)

pub at_tip : (kind : Kind) (a m : ℕ) → IsTrue (has_turn kind (Tip a m)) → turn_at kind (8 + 2 * a + (m - 1)) ≡ Tip a m
unfolding turn_at
at_tip (Axes true) a m h = tip_at a m (thirds_parts a m h)
at_tip _ a m h = absurd (false≢true h)

pub at_layers : (kind : Kind) (i j : ℕ) (top bottom : ℤ) → IsTrue (has_turn kind (Layers top bottom))
    → pos i -ℤ pos 5 ≡ top → pos j -ℤ pos 5 ≡ bottom → turn_at kind (12 * i + j) ≡ Layers top bottom
unfolding turn_at
at_layers LayersAndTwist i j top bottom h e f =
    let p = layers_parts top bottom h in
    layers_at i j top bottom (omega (arith, ints, e, p.top_within.high)) (omega (arith, ints, f, p.bottom_within.high)) e f p.some
at_layers _ i j top bottom h e f = absurd (false≢true h)

pub at_twist : (kind : Kind) → IsTrue (has_turn kind Twist) → turn_at kind 65 ≡ Twist
unfolding turn_at layer_turn_at
at_twist LayersAndTwist h = refl
at_twist _ h = absurd (false≢true h)

pub at_wide : (kind : Kind) (letter : ℕ) (plus : Bool) → IsTrue (has_turn kind (Wide letter plus))
    → turn_at kind (2 * letter + cond plus 0 1) ≡ Wide letter plus
unfolding turn_at
at_wide WideTurns letter plus h = wide_at letter plus
at_wide _ letter plus h = absurd (false≢true h)
