-- What turns come to, told by their numbers.
use Rattle.std.proofs.Common.{◌≡◌, ℕ, ◌+◌, ◌-◌, ◌*◌, ◌/◌, ◌%◌, ◌<◌, ◌==◌, Bool, true, false, IsTrue, cond, Option, Some, None, refl, sym, ap, ap₂, subst, ◌∙◌, arith, eqb, eq-eqb}
use Rattle.std.specs.Prelude.{not, nat_lt, pos, neg_ℤ, ◌+ℤ◌, ◌-ℤ◌, slice_index}
use Rattle.std.specs.Bool.{then_some}
use Rattle.std.specs.Option.{option_map, IfSome}
use mathlib.Core.Bool.{beq}
use Rattle.std.proofs.lemmas.Bool.{false≢true}
use Rattle.std.proofs.Math.Bool.{not-not}
use Rattle.std.proofs.lemmas.Bool.Decides.{nat_tests}
use Rattle.std.proofs.lemmas.Int.{ints}
use Rattle.scr_notation.specs.declared.event.Kind.{Kind}
use Rattle.scr_notation.specs.declared.event.Kind.TheVariants.{Faces, LayersAndTwist}
use Rattle.scr_notation.specs.declared.turn.Turn.{Turn}
use Rattle.scr_notation.specs.declared.turn.Turn.TheVariants.{Face, Axis, Tip, Layers, Twist, Pins, Over}
use Rattle.scr_notation.specs.Layers.{twelfths, are_still}
use Rattle.scr_notation.specs.Pins.{pin_sets}
use Rattle.scr_notation.specs.TurnNumbers.{turn_at, turn_count, face_turn_at, axis_turn_at, layer_turn_at, clock_turn_at, wide_turn_at}
use Rattle.scr_notation.specs.Turning.{opposite, are_alike, turns_merged, layers_turned, has_merging}
use Rattle.scr_notation.proofs.LayersLaws.{twelfths-only}

-- ---- turns taken back

-- one number undoes the other
abbrev pub Undoes : (ℕ → Turn) → ℕ → ℕ → Type 0
Undoes turn_of m n = turn_of m ≡ opposite (turn_of n)

pub undoes_at : {kind own : Kind} (m n : ℕ) → kind ≡ own → Undoes (turn_at own) m n → Undoes (turn_at kind) m n
undoes_at m n e h = ap (λ k. turn_at k m) e ∙ h ∙ sym (ap (λ k. opposite (turn_at k n)) e)

pub face_back : (n : ℕ) → Undoes face_turn_at (n - n % 3 + (2 - n % 3)) n
unfolding face_turn_at
face_back n =
    let m : ℕ = n - n % 3 + (2 - n % 3) in
    let face : m / 3 % 6 ≡ n / 3 % 6 = omega arith in
    let depth : m / 18 ≡ n / 18 = omega arith in
    let amount : m % 3 + 1 ≡ 4 - (n % 3 + 1) = omega arith in
    cc

-- the other number of two that belong together
abbrev pub other_of_two : ℕ → ℕ
other_of_two n = n - n % 2 + (1 - n % 2)

pub axis_back : (n : ℕ) (b : Bool) → nat_lt n 8 ≡ b → Undoes axis_turn_at (other_of_two n) n
unfolding axis_turn_at
axis_back n b e =
    let m : ℕ = other_of_two n in
    let same : nat_lt m 8 ≡ b = grind (arith, nat_tests) in
    let axis : m / 2 ≡ n / 2 = omega arith in
    let tip : (m - 8) / 2 ≡ (n - 8) / 2 = omega arith in
    let amount : m % 2 + 1 ≡ 3 - (n % 2 + 1) = omega arith in
    let turn : ℕ → Bool → Turn = λ k c. cond c (Axis (k / 2) (k % 2 + 1)) (Tip ((k - 8) / 2) (k % 2 + 1)) in
    let back : turn m b ≡ opposite (turn n b) = elim b as (λ c. turn m c ≡ opposite (turn n c)) [ true ↦ cc | false ↦ cc ] in
    ap (turn m) same ∙ back ∙ sym (ap (λ c. opposite (turn n c)) e)

pub wide_back : (n : ℕ) → Undoes wide_turn_at (other_of_two n) n
unfolding wide_turn_at
wide_back n =
    let m : ℕ = other_of_two n in
    let letter : m / 2 ≡ n / 2 = omega arith in
    let plus : (m % 2 == 0) ≡ not (n % 2 == 0) = grind (arith, nat_tests) in
    cc

pub clock_back : (n : ℕ) (b : Bool) → n < 109 → eqb n 108 ≡ b → Undoes clock_turn_at (n - n % 12 + (12 - n % 12) % 12) n
unfolding clock_turn_at
clock_back n b l e =
    let m : ℕ = n - n % 12 + (12 - n % 12) % 12 in
    let over : eqb m 108 ≡ b = grind (arith, nat_tests) in
    let set : m / 12 ≡ n / 12 = omega arith in
    let amount : m % 12 ≡ (12 - n % 12) % 12 = omega arith in
    let turn : ℕ → Bool → Turn = λ k c. cond c Over (Pins (slice_index pin_sets (k / 12)) (k % 12)) in
    let back : turn m b ≡ opposite (turn n b) =
    elim b as (λ c. turn m c ≡ opposite (turn n c)) [ true ↦ refl | false ↦ ap₂ (λ k a. Pins (slice_index pin_sets k) a) set amount ] in
    ap (turn m) over ∙ back ∙ sym (ap (λ c. opposite (turn n c)) e)

-- twelfths by their places among the twelve
place_back : (i : ℕ) → i < 12 → twelfths (neg_ℤ (pos i -ℤ pos 5)) ≡ pos ((22 - i) % 12) -ℤ pos 5
place_back i l =
    twelfths-only (neg_ℤ (pos i -ℤ pos 5)) (pos ((22 - i) % 12) -ℤ pos 5) (record {
      turns = 1;
      turns_more = (22 - i) / 12;
      same = omega (arith, ints);
      within = record { low = omega (arith, ints); high = omega (arith, ints) };
    })

places_sum : (i j : ℕ) → i < 12 → j < 12
    → twelfths ((pos i -ℤ pos 5) +ℤ (pos j -ℤ pos 5)) ≡ pos ((i + j + 7) % 12) -ℤ pos 5
places_sum i j l m =
    twelfths-only ((pos i -ℤ pos 5) +ℤ (pos j -ℤ pos 5)) (pos ((i + j + 7) % 12) -ℤ pos 5) (record {
      turns = 1;
      turns_more = (i + j + 7) / 12;
      same = omega (arith, ints);
      within = record { low = omega (arith, ints); high = omega (arith, ints) };
    })

pub layer_back : (n : ℕ) (b : Bool) → n < 144 → eqb n 65 ≡ b → Undoes layer_turn_at (12 * ((22 - n / 12) % 12) + (22 - n % 12) % 12) n
unfolding layer_turn_at
layer_back n b l e =
    let m : ℕ = 12 * ((22 - n / 12) % 12) + (22 - n % 12) % 12 in
    let twist : eqb m 65 ≡ b = grind (arith, nat_tests) in
    let top : m / 12 ≡ (22 - n / 12) % 12 = omega arith in
    let bottom : m % 12 ≡ (22 - n % 12) % 12 = omega arith in
    let turn : ℕ → Bool → Turn = λ k c. cond c Twist (Layers (pos (k / 12) -ℤ pos 5) (pos (k % 12) -ℤ pos 5)) in
    let top_back = ap (λ k. pos k -ℤ pos 5) top ∙ sym (place_back (n / 12) (omega arith)) in
    let bottom_back = ap (λ k. pos k -ℤ pos 5) bottom ∙ sym (place_back (n % 12) (omega arith)) in
    let back : turn m b ≡ opposite (turn n b) = elim b as (λ c. turn m c ≡ opposite (turn n c)) [ true ↦ refl | false ↦ ap₂ Layers top_back bottom_back ] in
    ap (turn m) twist ∙ back ∙ sym (ap (λ c. opposite (turn n c)) e)

-- ---- turns merged

face_alike : (n m : ℕ) → (n / 3 == m / 3) ≡ are_alike (face_turn_at n) (face_turn_at m)
unfolding face_turn_at
face_alike n m = grind (arith, nat_tests)

-- the one turn with a number, if one is left
abbrev left_at : (ℕ → Turn) → Bool → ℕ → Option Turn
left_at turn_of some s = option_map turn_of (then_some some s)

face_sum : (n m : ℕ) (b : Bool) → n / 3 ≡ m / 3 → not ((n % 3 + m % 3 + 1) % 4 == 3) ≡ b
    → left_at face_turn_at b (n - n % 3 + (n % 3 + m % 3 + 1) % 4) ≡ turns_merged (face_turn_at n) (face_turn_at m)
unfolding face_turn_at
face_sum n m b same e =
    let s : ℕ = n - n % 3 + (n % 3 + m % 3 + 1) % 4 in
    let amount : ℕ = (n % 3 + 1 + (m % 3 + 1)) % 4 in
    let nothing : eqb amount 0 ≡ not b = grind (arith, nat_tests) in
    let left : Bool → Option Turn = λ c. cond c None (Some (Face (m / 3 % 6) (m / 18 + 1) amount)) in
    one_sum b same e ∙ sym (ap left nothing)
  where
    one_sum : (c : Bool) → n / 3 ≡ m / 3 → not ((n % 3 + m % 3 + 1) % 4 == 3) ≡ c
        → left_at face_turn_at c (n - n % 3 + (n % 3 + m % 3 + 1) % 4)
        ≡ (let o : Option Turn = cond (not c) None (Some (Face (m / 3 % 6) (m / 18 + 1) ((n % 3 + 1 + (m % 3 + 1)) % 4))) in o)
    one_sum true g h =
        let q : ℕ = (n % 3 + m % 3 + 1) % 4 in
        let s : ℕ = n - n % 3 + q in
        let some : q ≡ 3 → ⊥ = λ three. false≢true (sym (ap not (eq-eqb q 3 three)) ∙ h) in
        let face : s / 3 % 6 ≡ m / 3 % 6 = omega arith in
        let depth : s / 18 + 1 ≡ m / 18 + 1 = omega arith in
        let by : s % 3 + 1 ≡ (n % 3 + 1 + (m % 3 + 1)) % 4 = omega arith in
        cc
    one_sum false g h = refl

-- the turn of a Square-1 with a number, which is the twist's or another
abbrev layer_turn : ℕ → Bool → Turn
layer_turn n is_twist = cond is_twist Twist (Layers (pos (n / 12) -ℤ pos 5) (pos (n % 12) -ℤ pos 5))

layer_alike : (n m : ℕ) (a b : Bool) → eqb n 65 ≡ a → eqb m 65 ≡ b → beq a b ≡ are_alike (layer_turn_at n) (layer_turn_at m)
unfolding layer_turn_at
layer_alike n m a b e f = alike a b ∙ sym (ap₂ (λ x y. are_alike (layer_turn n x) (layer_turn m y)) e f)
  where
    alike : (x y : Bool) → beq x y ≡ are_alike (layer_turn n x) (layer_turn m y)
    alike true true = refl
    alike true false = refl
    alike false true = refl
    alike false false = refl

still_at : (t u : ℕ) → t < 12 → u < 12 → are_still (pos t -ℤ pos 5) (pos u -ℤ pos 5) ≡ (12 * t + u == 65)
still_at t u l k = grind (arith, ints, nat_tests)

-- what is left of layers, by places among the twelve
layers_left : (t u : ℕ) (c : Bool) → t < 12 → u < 12 → not (12 * t + u == 65) ≡ c
    → left_at layer_turn_at c (12 * t + u) ≡ layers_turned (pos t -ℤ pos 5) (pos u -ℤ pos 5)
unfolding layer_turn_at
layers_left t u c l k h =
    let s : ℕ = 12 * t + u in
    let top : s / 12 ≡ t = omega arith in
    let bottom : s % 12 ≡ u = omega arith in
    ap (λ x. left_at layer_turn_at x s) (sym h) ∙ left (eqb s 65) refl top bottom ∙ ap turn_left (sym (still_at t u l k))
  where
    turn_left : Bool → Option Turn
    turn_left is = cond is None (Some (Layers (pos t -ℤ pos 5) (pos u -ℤ pos 5)))

    left : (is : Bool) → eqb (12 * t + u) 65 ≡ is → (12 * t + u) / 12 ≡ t → (12 * t + u) % 12 ≡ u
        → left_at layer_turn_at (not is) (12 * t + u) ≡ turn_left is
    left true e top bottom = refl
    left false e top bottom =
        ap Some (ap (layer_turn (12 * t + u)) e ∙ ap₂ (λ x y. Layers (pos x -ℤ pos 5) (pos y -ℤ pos 5)) top bottom)

layer_sum : (n m : ℕ) (a b c : Bool) → n < 144 → m < 144 → eqb n 65 ≡ a → eqb m 65 ≡ b → beq a b ≡ true
    → not (12 * ((n / 12 + m / 12 + 7) % 12) + (n % 12 + m % 12 + 7) % 12 == 65) ≡ c
    → left_at layer_turn_at c (12 * ((n / 12 + m / 12 + 7) % 12) + (n % 12 + m % 12 + 7) % 12) ≡ turns_merged (layer_turn_at n) (layer_turn_at m)
unfolding layer_turn_at
layer_sum n m true true c l k e f g h =
    let none : c ≡ false = grind (arith, nat_tests) in
    ap (λ x. left_at layer_turn_at x (12 * ((n / 12 + m / 12 + 7) % 12) + (n % 12 + m % 12 + 7) % 12)) none
    ∙ sym (ap₂ (λ x y. turns_merged (layer_turn n x) (layer_turn m y)) e f)
layer_sum n m false false c l k e f g h =
    let top = places_sum (n / 12) (m / 12) (omega arith) (omega arith) in
    let bottom = places_sum (n % 12) (m % 12) (omega arith) (omega arith) in
    layers_left ((n / 12 + m / 12 + 7) % 12) ((n % 12 + m % 12 + 7) % 12) c (omega arith) (omega arith) h
    ∙ sym (ap₂ layers_turned top bottom) ∙ sym (ap₂ (λ x y. turns_merged (layer_turn n x) (layer_turn m y)) e f)
layer_sum n m _ _ c l k e f g h = absurd (false≢true g)

-- a kind whose turns are merged, and not those of a Square-1, is one of faces
kind_of_faces : (kind : Kind) → IsTrue (has_merging kind) → (kind ≡ LayersAndTwist → ⊥)
    → (near : ℕ) × (far : ℕ) × (kind ≡ Faces near far)
kind_of_faces (Faces near far) h other = (near, far, refl)
kind_of_faces LayersAndTwist h other = absurd (other refl)
kind_of_faces _ h other = absurd (false≢true h)

-- whether two turns are merged, and what they come to, by their numbers: of a Square-1,
pub layers_alike : {kind : Kind} {b : Bool} (n m : ℕ) → kind ≡ LayersAndTwist → not (beq (n == 65) (m == 65)) ≡ not b
    → b ≡ are_alike (turn_at kind n) (turn_at kind m)
unfolding turn_at
layers_alike {kind} {b} n m e h =
    sym (not-not b) ∙ ap not (sym h) ∙ not-not (beq (n == 65) (m == 65)) ∙ layer_alike n m (n == 65) (m == 65) refl refl
    ∙ sym (ap (λ k. are_alike (turn_at k n) (turn_at k m)) e)

pub layers_merged : {kind : Kind} {left : Option ℕ} (n m : ℕ) → kind ≡ LayersAndTwist → n < turn_count kind → m < turn_count kind
    → not (beq (n == 65) (m == 65)) ≡ false
    → (let s : ℕ = 12 * ((n / 12 + m / 12 + 7) % 12) + (n % 12 + m % 12 + 7) % 12 in left ≡ then_some (not (s == 65)) s)
    → option_map (turn_at kind) left ≡ turns_merged (turn_at kind n) (turn_at kind m)
unfolding turn_at
layers_merged {kind} {left} n m e l k h is =
    ap (λ (x : Kind). option_map (turn_at x) left) e ∙ ap (option_map layer_turn_at) is
    ∙ layer_sum n m (n == 65) (m == 65) _ (omega (arith, l, ap turn_count e)) (omega (arith, k, ap turn_count e)) refl refl
    (sym (not-not (beq (n == 65) (m == 65))) ∙ ap not h) refl
    ∙ sym (ap (λ x. turns_merged (turn_at x n) (turn_at x m)) e)

-- and of faces
pub faces_alike : {kind : Kind} {b : Bool} (n m : ℕ) → IsTrue (has_merging kind) → (kind ≡ LayersAndTwist → ⊥)
    → (n / 3 == m / 3) ≡ b → b ≡ are_alike (turn_at kind n) (turn_at kind m)
unfolding turn_at
faces_alike n m merging other h =
    let faces = kind_of_faces _ merging other in
    sym h ∙ face_alike n m ∙ sym (ap (λ k. are_alike (turn_at k n) (turn_at k m)) faces.2)

pub faces_merged : {kind : Kind} {left : Option ℕ} (n m : ℕ) → IsTrue (has_merging kind) → (kind ≡ LayersAndTwist → ⊥) → n / 3 ≡ m / 3
    → (let q : ℕ = (n % 3 + m % 3 + 1) % 4 in left ≡ then_some (not (q == 3)) (n - n % 3 + q))
    → option_map (turn_at kind) left ≡ turns_merged (turn_at kind n) (turn_at kind m)
unfolding turn_at
faces_merged {kind} {left} n m merging other same is =
    let faces = kind_of_faces kind merging other in
    ap (λ (x : Kind). option_map (turn_at x) left) faces.2 ∙ ap (option_map face_turn_at) is ∙ face_sum n m _ same refl
    ∙ sym (ap (λ x. turns_merged (turn_at x n) (turn_at x m)) faces.2)

pub faces_below : {kind : Kind} {left : Option ℕ} (n m : ℕ) → IsTrue (has_merging kind) → (kind ≡ LayersAndTwist → ⊥) → n < turn_count kind
    → (let q : ℕ = (n % 3 + m % 3 + 1) % 4 in left ≡ then_some (not (q == 3)) (n - n % 3 + q)) → IfSome left (λ s. s < turn_count kind)
faces_below {kind} {left} n m merging other l is =
    let faces = kind_of_faces kind merging other in
    subst (λ o. IfSome o (λ s. s < turn_count kind)) (sym is) (below faces.0 faces.1 (ap turn_count faces.2) (not ((n % 3 + m % 3 + 1) % 4 == 3)) refl)
  where
    below : (near far : ℕ) → turn_count kind ≡ 9 * (near + far) → (b : Bool) → not ((n % 3 + m % 3 + 1) % 4 == 3) ≡ b
        → IfSome (then_some b (n - n % 3 + (n % 3 + m % 3 + 1) % 4)) (λ s. s < turn_count kind)
    below near far count true h =
        let q : ℕ = (n % 3 + m % 3 + 1) % 4 in
        let some : q ≡ 3 → ⊥ = λ three. false≢true (sym (ap not (eq-eqb q 3 three)) ∙ h) in omega (arith, l, count)
    below near far count false h = tt
