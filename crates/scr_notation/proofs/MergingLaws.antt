-- Turns merged.
use Rattle.std.proofs.Common.{◌≡◌, ℕ, ◌+◌, ◌%◌, ◌<◌, Bool, true, false, IsTrue, cond, Option, Some, None, refl, sym, ap, subst, ◌∙◌, arith, eqb, eqb-true, eq-eqb, ne_eqb}
use Rattle.std.specs.Prelude.{◌==◌, ◌&&◌, ℤ, pos, ◌+ℤ◌}
use Rattle.std.proofs.lemmas.Bool.{false≢true, eqb-false}
use Rattle.std.proofs.lemmas.Int.{ints}
use Rattle.scr_combinatorics.specs.Lawful.{IsMerging, together}
use Rattle.scr_notation.specs.declared.event.Event.{Event}
use Rattle.scr_notation.specs.declared.event.Kind.{Kind}
use Rattle.scr_notation.specs.declared.event.Kind.TheVariants.{Faces, Axes, LayersAndTwist, PinSets, WideTurns}
use Rattle.scr_notation.specs.declared.turn.Turn.{Turn}
use Rattle.scr_notation.specs.declared.turn.Turn.TheVariants.{Face, Layers, Twist}
use Rattle.scr_notation.specs.Event.{kind_of}
use Rattle.scr_notation.specs.Faces.{is_face_turn}
use Rattle.scr_notation.specs.Layers.{twelfths, are_still, is_layer_turn}
use Rattle.scr_notation.specs.Turns.{has_turn, permits}
use Rattle.scr_notation.specs.Turning.{are_alike, turns_merged, turn_merging, has_merging}
use Rattle.scr_notation.proofs.Below.{and_first, and_second}
use Rattle.scr_notation.proofs.NumberLaws.{face_turn_parts, face_turn_of_parts}
use Rattle.scr_notation.proofs.LayersLaws.{IsLayersTurn, layers_parts, layers_of_parts, are_still-first, are_still-second, IsTwelfths, AreTwelfths-twelfths, twelfths-own, twelfths-grouped}

-- ---- sums

-- the turn by an amount, or nothing where the amount is none
abbrev left : {A : Type 0} → (A → Turn) → (A → Bool) → A → Option Turn
left turn_of is_none a = cond (is_none a) None (Some (turn_of a))

-- Turns that are merged by adding amounts, where an amount that is none is no turn: it doesn't matter which two of
-- three are merged first.
record AddsAmounts {A : Type 0} (turn_of : A → Turn) (is_none : A → Bool) (sum : A → A → A) (IsAmount : A → Type 0) : Type 0 where
  merged : (a b : A) → turns_merged (turn_of a) (turn_of b) ≡ left turn_of is_none (sum a b)
  some : (a : A) → IsAmount a → is_none a ≡ false
  none_first : (x a : A) → IsTrue (is_none x) → IsAmount a → sum x a ≡ a
  none_last : (a x : A) → IsAmount a → IsTrue (is_none x) → sum a x ≡ a
  grouped : (a b c : A) → sum (sum a b) c ≡ sum a (sum b c)

module _ {A : Type 0} {turn_of : A → Turn} {is_none : A → Bool} {sum : A → A → A} {IsAmount : A → Type 0}
    (adds : AddsAmounts turn_of is_none sum IsAmount) where
  own : (a : A) → IsAmount a → left turn_of is_none a ≡ Some (turn_of a)
  own a h = ap (λ b. cond b None (Some (turn_of a))) (adds.some a h)

  with_next : (x a : A) (b : Bool) → is_none x ≡ b → IsAmount a
      → together turn_merging (left turn_of is_none x) (Some (turn_of a)) ≡ left turn_of is_none (sum x a)
  with_next x a true e h =
      ap (λ b. together turn_merging (cond b None (Some (turn_of x))) (Some (turn_of a))) e
      ∙ sym (own a h) ∙ ap (left turn_of is_none) (sym (adds.none_first x a e h))
  with_next x a false e h =
      ap (λ b. together turn_merging (cond b None (Some (turn_of x))) (Some (turn_of a))) e ∙ adds.merged x a

  with_last : (a x : A) (b : Bool) → is_none x ≡ b → IsAmount a
      → together turn_merging (Some (turn_of a)) (left turn_of is_none x) ≡ left turn_of is_none (sum a x)
  with_last a x true e h =
      ap (λ b. together turn_merging (Some (turn_of a)) (cond b None (Some (turn_of x)))) e
      ∙ sym (own a h) ∙ ap (left turn_of is_none) (sym (adds.none_last a x h e))
  with_last a x false e h =
      ap (λ b. together turn_merging (Some (turn_of a)) (cond b None (Some (turn_of x)))) e ∙ adds.merged a x

  three : (a b c : A) → IsAmount a → IsAmount c
      → together turn_merging (turns_merged (turn_of a) (turn_of b)) (Some (turn_of c))
      ≡ together turn_merging (Some (turn_of a)) (turns_merged (turn_of b) (turn_of c))
  three a b c p q =
      ap (λ o. together turn_merging o (Some (turn_of c))) (adds.merged a b)
      ∙ with_next (sum a b) c (is_none (sum a b)) refl q
      ∙ ap (left turn_of is_none) (adds.grouped a b c)
      ∙ sym (with_last a (sum b c) (is_none (sum b c)) refl p)
      ∙ ap (together turn_merging (Some (turn_of a))) (sym (adds.merged b c))

-- what is left is a turn by an amount that is not none
left_turn : (b : Bool) (t v : Turn) → (let o : Option Turn = cond b None (Some t) in o ≡ Some v) → (b ≡ false) × (v ≡ t)
left_turn true t v e = absurd (cc)
left_turn false t v e = (refl, cc)

-- ---- turns of one face

same_face : (f d g e : ℕ) → IsTrue ((f == g) && (d == e)) → f ≡ g
same_face f d g e h = eqb-true f g (and_first (f == g) (d == e) h)

same_depth : (f d g e : ℕ) → IsTrue ((f == g) && (d == e)) → d ≡ e
same_depth f d g e h = eqb-true d e (and_second (f == g) (d == e) h)

faces_add : (f d : ℕ) → AddsAmounts (λ n. Face f d n) (λ n. n == 0) (λ a b. (a + b) % 4) (λ a. (0 < a) × (a < 4))
faces_add f d = record {
  merged = λ a b. refl;
  some = λ a h. ne_eqb a 0 (omega arith);
  none_first = λ x a e h. let z : x ≡ 0 = eqb-true x 0 e in omega arith;
  none_last = λ a x h e. let z : x ≡ 0 = eqb-true x 0 e in omega arith;
  grouped = λ a b c. omega arith;
}

-- ---- turns of layers

-- the sums of two turns of layers
abbrev layers_sum : ℤ × ℤ → ℤ × ℤ → ℤ × ℤ
layers_sum p q = (twelfths (p.0 +ℤ q.0), twelfths (p.1 +ℤ q.1))

from_nothing : (x z : ℤ) → x ≡ pos 0 → IsTwelfths z → twelfths (x +ℤ z) ≡ z
from_nothing x z e t = let same : x +ℤ z ≡ z = omega (arith, ints) in ap twelfths same ∙ twelfths-own z t

to_nothing : (z x : ℤ) → x ≡ pos 0 → IsTwelfths z → twelfths (z +ℤ x) ≡ z
to_nothing z x e t = let same : z +ℤ x ≡ z = omega (arith, ints) in ap twelfths same ∙ twelfths-own z t

both_same : (a b c d : ℤ) → a ≡ c → b ≡ d → (let p : ℤ × ℤ = (a, b) in let q : ℤ × ℤ = (c, d) in p ≡ q)
both_same a b c d e f = cc

layers_add : AddsAmounts (λ p. Layers p.0 p.1) (λ p. are_still p.0 p.1) layers_sum (λ p. IsLayersTurn p.0 p.1)
layers_add = record {
  merged = λ a b. refl;
  some = λ a h. h.some;
  none_first = λ x a e h.
      let top = are_still-first x.0 x.1 e in
      let bottom = are_still-second x.0 x.1 e in
      both_same _ _ a.0 a.1 (from_nothing x.0 a.0 top h.top_within) (from_nothing x.1 a.1 bottom h.bottom_within);
  none_last = λ a x h e.
      let top = are_still-first x.0 x.1 e in
      let bottom = are_still-second x.0 x.1 e in
      both_same _ _ a.0 a.1 (to_nothing a.0 x.0 top h.top_within) (to_nothing a.1 x.1 bottom h.bottom_within);
  grouped = λ a b c. both_same _ _ _ _ (twelfths-grouped a.0 b.0 c.0) (twelfths-grouped a.1 b.1 c.1);
}

-- ---- all turns that are merged

first : (t u v : Turn) → IsTrue (are_alike t u) → are_alike t v ≡ are_alike u v
first (Face f d a) (Face g e b) (Face h k c) p =
    ap (λ x. (x == h) && (d == k)) (same_face f d g e p) ∙ ap (λ x. (g == h) && (x == k)) (same_depth f d g e p)
first (Face f d a) (Face g e b) _ p = refl
first (Layers x y) (Layers z w) _ p = refl
first Twist Twist _ p = refl
first _ _ _ p = absurd (false≢true p)

second : (t u v : Turn) → IsTrue (are_alike t u) → are_alike v t ≡ are_alike v u
second (Face f d a) (Face g e b) (Face h k c) p =
    ap (λ x. (h == x) && (k == d)) (same_face f d g e p) ∙ ap (λ x. (h == g) && (k == x)) (same_depth f d g e p)
second (Face f d a) (Face g e b) _ p = refl
second (Layers x y) (Layers z w) (Layers r s) p = refl
second (Layers x y) (Layers z w) _ p = refl
second Twist Twist Twist p = refl
second Twist Twist _ p = refl
second _ _ _ p = absurd (false≢true p)

alike_first : (t u v : Turn) → IsTrue (are_alike t u) → turns_merged t u ≡ Some v → IsTrue (are_alike v u)
alike_first (Face f d a) (Face g e b) v p m =
    ap (λ x. are_alike x (Face g e b)) (left_turn (eqb ((a + b) % 4) 0) (Face g e ((a + b) % 4)) v m).1
    ∙ ap (λ x. x && (e == e)) (eq-eqb g g refl) ∙ eq-eqb e e refl
alike_first (Layers x y) (Layers z w) v p m =
    let top = twelfths (x +ℤ z) in
    let bottom = twelfths (y +ℤ w) in
    ap (λ t. are_alike t (Layers z w)) (left_turn (are_still top bottom) (Layers top bottom) v m).1
alike_first Twist Twist v p m = absurd (cc)
alike_first _ _ v p m = absurd (false≢true p)

-- ---- the kinds that have them

closed_faces : (near far : ℕ) (t u v : Turn) → IsTrue (is_face_turn near far t) → IsTrue (is_face_turn near far u)
    → IsTrue (are_alike t u) → turns_merged t u ≡ Some v → IsTrue (is_face_turn near far v)
closed_faces near far (Face f d a) (Face g e b) v p q h m =
    let n : ℕ = (a + b) % 4 in
    let r = left_turn (eqb n 0) (Face g e n) v m in
    let s = face_turn_parts near far g e b q in
    let some : n ≡ 0 → ⊥ = eqb-false n 0 r.0 in
    ap (is_face_turn near far) r.1
    ∙ face_turn_of_parts near far g e n (record {
      face_below = s.face_below;
      some_layer = s.some_layer;
      near_layers = s.near_layers;
      far_layers = s.far_layers;
      some_quarter = omega arith;
      no_whole = omega arith;
    })
closed_faces near far (Face f d a) _ v p q h m = absurd (false≢true h)
closed_faces near far _ _ v p q h m = absurd (false≢true p)

closed_layers : (t u v : Turn) → IsTrue (is_layer_turn t) → IsTrue (is_layer_turn u) → IsTrue (are_alike t u)
    → turns_merged t u ≡ Some v → IsTrue (is_layer_turn v)
closed_layers (Layers x y) (Layers z w) v p q h m =
    let top = twelfths (x +ℤ z) in
    let bottom = twelfths (y +ℤ w) in
    let r = left_turn (are_still top bottom) (Layers top bottom) v m in
    ap is_layer_turn r.1
    ∙ layers_of_parts top bottom
    (record { top_within = (AreTwelfths-twelfths (x +ℤ z)).within; bottom_within = (AreTwelfths-twelfths (y +ℤ w)).within; some = r.0 })
closed_layers (Layers x y) _ v p q h m = absurd (false≢true h)
closed_layers Twist Twist v p q h m = absurd (cc)
closed_layers Twist _ v p q h m = absurd (false≢true h)
closed_layers _ _ v p q h m = absurd (false≢true p)

-- it doesn't matter which two of three such turns are merged first
abbrev Grouped : Turn → Turn → Turn → Type 0
Grouped t u v = together turn_merging (turns_merged t u) (Some v) ≡ together turn_merging (Some t) (turns_merged u v)

grouped_faces : (near far : ℕ) (t u v : Turn) → IsTrue (is_face_turn near far t) → IsTrue (is_face_turn near far u)
    → IsTrue (is_face_turn near far v) → IsTrue (are_alike t u) → IsTrue (are_alike u v) → Grouped t u v
grouped_faces near far (Face f d a) (Face g e b) (Face h k c) ot ou ov p q =
    let t = face_turn_parts near far f d a ot in
    let v = face_turn_parts near far h k c ov in
    let fg = same_face f d g e p in
    let de = same_depth f d g e p in
    let fh = fg ∙ same_face g e h k q in
    let dk = de ∙ same_depth g e h k q in
    let P : ℕ → Type 0 = λ x. Grouped (Face f d a) (Face x d b) (Face f d c) in
    let Q : ℕ → Type 0 = λ x. Grouped (Face f d a) (Face g x b) (Face f d c) in
    let R : ℕ → Type 0 = λ x. Grouped (Face f d a) (Face g e b) (Face x d c) in
    let S : ℕ → Type 0 = λ x. Grouped (Face f d a) (Face g e b) (Face h x c) in
    subst S dk (subst R fh (subst Q de (subst P fg
    (three (faces_add f d) a b c (t.some_quarter, t.no_whole) (v.some_quarter, v.no_whole)))))
grouped_faces near far (Face f d a) (Face g e b) _ ot ou ov p q = absurd (false≢true q)
grouped_faces near far (Face f d a) _ _ ot ou ov p q = absurd (false≢true p)
grouped_faces near far _ _ _ ot ou ov p q = absurd (false≢true ot)

grouped_layers : (t u v : Turn) → IsTrue (is_layer_turn t) → IsTrue (is_layer_turn u) → IsTrue (is_layer_turn v)
    → IsTrue (are_alike t u) → IsTrue (are_alike u v) → Grouped t u v
grouped_layers (Layers x y) (Layers z w) (Layers r s) ot ou ov p q =
    three layers_add (x, y) (z, w) (r, s) (layers_parts x y ot) (layers_parts r s ov)
grouped_layers (Layers x y) (Layers z w) _ ot ou ov p q = absurd (false≢true q)
grouped_layers (Layers x y) _ _ ot ou ov p q = absurd (false≢true p)
grouped_layers Twist Twist Twist ot ou ov p q = refl
grouped_layers Twist Twist _ ot ou ov p q = absurd (false≢true q)
grouped_layers Twist _ _ ot ou ov p q = absurd (false≢true p)
grouped_layers _ _ _ ot ou ov p q = absurd (false≢true ot)

-- the turns of a kind whose turns are merged
IsMerging-kind : (kind : Kind) → IsTrue (has_merging kind) → IsMerging turn_merging (λ t. IsTrue (has_turn kind t))
IsMerging-kind (Faces near far) h =
    record { closed = closed_faces near far; first = first; second = second; alike_first = alike_first; grouped = grouped_faces near far }
IsMerging-kind LayersAndTwist h =
    record { closed = closed_layers; first = first; second = second; alike_first = alike_first; grouped = grouped_layers }
IsMerging-kind (Axes tips) h = absurd (false≢true h)
IsMerging-kind PinSets h = absurd (false≢true h)
IsMerging-kind WideTurns h = absurd (false≢true h)

-- the turns of an event of such a kind
pub IsMerging-event : (e : Event) → IsTrue (has_merging (kind_of e))
    → IsMerging turn_merging (λ t. IsTrue (permits e t))
IsMerging-event e h = IsMerging-kind (kind_of e) h
