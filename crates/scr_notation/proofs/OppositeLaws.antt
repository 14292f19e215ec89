-- Turns taken back.
use Rattle.std.proofs.Common.{◌≡◌, ℕ, ◌-◌, ◌%◌, ◌<◌, ◌==◌, Bool, true, false, IsTrue, List, length, refl, sym, ap, ◌∙◌, arith, le-leb}
use Rattle.std.specs.Prelude.{◌&&◌, nat_le, nat_lt, ℤ, pos, neg_ℤ, map}
use Rattle.std.proofs.lemmas.List.{length-map, length-reverse}
use Rattle.scr_combinatorics.specs.Back.{back}
use Rattle.std.specs.List.{list_any}
use Rattle.std.proofs.lemmas.Bool.{false≢true}
use Rattle.scr_notation.specs.declared.event.Event.{Event}
use Rattle.scr_notation.specs.declared.event.Kind.{Kind}
use Rattle.scr_notation.specs.declared.event.Kind.TheVariants.{Faces, Axes, LayersAndTwist, PinSets, WideTurns}
use Rattle.scr_notation.specs.declared.turn.Turn.{Turn}
use Rattle.scr_notation.specs.declared.turn.Turn.TheVariants.{Face, Axis, Tip, Layers, Twist, Pins, Over, Wide}
use Rattle.scr_notation.specs.Event.{kind_of}
use Rattle.scr_notation.specs.Amounts.{is_amount}
use Rattle.scr_notation.specs.Faces.{is_face_turn}
use Rattle.scr_notation.specs.Axes.{is_axis_turn}
use Rattle.scr_notation.specs.Layers.{twelfths, are_still, is_layer_turn}
use Rattle.scr_notation.specs.Pins.{pin_sets, is_clock_turn}
use Rattle.scr_notation.specs.Wide.{is_wide_turn}
use Rattle.scr_notation.specs.Turns.{has_turn, permits}
use Rattle.scr_notation.specs.Turning.{opposite}
use Rattle.scr_notation.proofs.Below.{and_first, and_true}
use Rattle.scr_notation.proofs.NumberLaws.{face_turn_parts, face_turn_of_parts, IsThirds, thirds_parts, thirds_of_parts, below_twelve}
use Rattle.scr_notation.proofs.LayersLaws.{IsTwelfths, AreTwelfths-twelfths, twelfths-back, IsLayersTurn, layers_parts, layers_of_parts, are_still-first, are_still-second}

-- the opposite is a turn of the same puzzle, and its opposite is the turn
record IsTakenBack (is_turn : Turn → Bool) (t : Turn) : Type 0 where
  is : IsTrue (is_turn (opposite t))
  twice : opposite (opposite t) ≡ t

opposite_face : (near far : ℕ) (t : Turn) → IsTrue (is_face_turn near far t) → IsTakenBack (is_face_turn near far) t
opposite_face near far (Face f d a) h =
    let p = face_turn_parts near far f d a h in
    let twice : 4 - (4 - a) ≡ a = omega (arith, p.no_whole) in
    record {
      is =
          face_turn_of_parts near far f d (4 - a) (record {
            face_below = p.face_below;
            some_layer = p.some_layer;
            near_layers = p.near_layers;
            far_layers = p.far_layers;
            some_quarter = omega (arith, p.no_whole);
            no_whole = omega (arith, p.some_quarter);
          });
      twice = ap (λ n. Face f d n) twice;
    }
opposite_face near far _ h = absurd (false≢true h)

opposite_thirds : (axis amount : ℕ) → IsThirds axis amount
    → IsTrue (nat_lt axis 4 && is_amount 3 (3 - amount)) × (3 - (3 - amount) ≡ amount)
opposite_thirds axis amount p = (
  thirds_of_parts axis (3 - amount)
      (record { axis_below = p.axis_below; some_third = omega (arith, p.no_whole); no_whole = omega (arith, p.some_third) }),
  omega (arith, p.no_whole),
)

opposite_axis : (tips : Bool) (t : Turn) → IsTrue (is_axis_turn tips t) → IsTakenBack (is_axis_turn tips) t
opposite_axis tips (Axis axis amount) h =
    let o = opposite_thirds axis amount (thirds_parts axis amount h) in record { is = o.0; twice = ap (λ n. Axis axis n) o.1 }
opposite_axis true (Tip tip amount) h =
    let o = opposite_thirds tip amount (thirds_parts tip amount h) in record { is = o.0; twice = ap (λ n. Tip tip n) o.1 }
opposite_axis false (Tip tip amount) h = absurd (false≢true h)
opposite_axis tips _ h = absurd (false≢true h)

-- layers that turn are turned back
none_back : (z : ℤ) → IsTwelfths z → twelfths (neg_ℤ z) ≡ pos 0 → z ≡ pos 0
none_back z t e = sym (twelfths-back z t) ∙ ap (λ x. twelfths (neg_ℤ x)) e

still_back : (x y : ℤ) (b : Bool) → IsLayersTurn x y → are_still (twelfths (neg_ℤ x)) (twelfths (neg_ℤ y)) ≡ b
    → b ≡ false
still_back x y true p e =
    let top = none_back x p.top_within (are_still-first (twelfths (neg_ℤ x)) (twelfths (neg_ℤ y)) e) in
    let bottom = none_back y p.bottom_within (are_still-second (twelfths (neg_ℤ x)) (twelfths (neg_ℤ y)) e) in
    ap (λ z. are_still z (pos 0)) (sym top) ∙ ap (are_still x) (sym bottom) ∙ p.some
still_back x y false p e = refl

opposite_layers : (t : Turn) → IsTrue (is_layer_turn t) → IsTakenBack is_layer_turn t
opposite_layers (Layers top bottom) h =
    let p = layers_parts top bottom h in
    record {
      is =
          layers_of_parts (twelfths (neg_ℤ top)) (twelfths (neg_ℤ bottom)) (record {
            top_within = (AreTwelfths-twelfths (neg_ℤ top)).within;
            bottom_within = (AreTwelfths-twelfths (neg_ℤ bottom)).within;
            some = still_back top bottom (are_still (twelfths (neg_ℤ top)) (twelfths (neg_ℤ bottom))) p refl;
          });
      twice =
          ap (λ x. Layers x (twelfths (neg_ℤ (twelfths (neg_ℤ bottom))))) (twelfths-back top p.top_within)
          ∙ ap (λ y. Layers top y) (twelfths-back bottom p.bottom_within);
    }
opposite_layers Twist h = record { is = refl; twice = refl }
opposite_layers _ h = absurd (false≢true h)

opposite_clock : (t : Turn) → IsTrue (is_clock_turn t) → IsTakenBack is_clock_turn t
opposite_clock (Pins p a) h =
    let set = list_any (λ set. set == p) pin_sets in
    let low : a < 12 = below_twelve set a h in
    let fits : IsTrue (nat_le ((12 - a) % 12) 11) = le-leb ((12 - a) % 12) 11 (omega arith) in
    let twice : (12 - (12 - a) % 12) % 12 ≡ a = omega arith in
    record {
      is = and_true set (nat_le ((12 - a) % 12) 11) (and_first set (nat_le a 11) h) fits;
      twice = ap (λ n. Pins p n) twice;
    }
opposite_clock Over h = record { is = refl; twice = refl }
opposite_clock _ h = absurd (false≢true h)

opposite_wide : (t : Turn) → IsTrue (is_wide_turn t) → IsTakenBack is_wide_turn t
opposite_wide (Wide letter true) h = record { is = h; twice = refl }
opposite_wide (Wide letter false) h = record { is = h; twice = refl }
opposite_wide _ h = absurd (false≢true h)

opposite_of_kind : (kind : Kind) (t : Turn) → IsTrue (has_turn kind t) → IsTakenBack (has_turn kind) t
opposite_of_kind (Faces near far) t h = opposite_face near far t h
opposite_of_kind (Axes tips) t h = opposite_axis tips t h
opposite_of_kind LayersAndTwist t h = opposite_layers t h
opposite_of_kind PinSets t h = opposite_clock t h
opposite_of_kind WideTurns t h = opposite_wide t h

-- the opposite of a turn of an event is one, and its opposite is the turn
pub permits-opposite : (e : Event) (t : Turn) → IsTrue (permits e t) → IsTrue (permits e (opposite t))
permits-opposite e t h = (opposite_of_kind (kind_of e) t h).is

pub opposite-opposite : (e : Event) (t : Turn) → IsTrue (permits e t) → opposite (opposite t) ≡ t
opposite-opposite e t h = (opposite_of_kind (kind_of e) t h).twice

-- a word that is taken back is as long
pub length-back : (ts : List Turn) → length (back opposite ts) ≡ length ts
length-back ts = length-reverse (map opposite ts) ∙ length-map ts opposite
