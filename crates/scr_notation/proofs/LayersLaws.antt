-- Twelfths modulo 12, from -5 to 6, and turns of layers by them.
use Rattle.std.proofs.Common.{◌≡◌, ℕ, suc, ◌+◌, ◌*◌, ◌/◌, ◌%◌, IsTrue, Bool, false, refl, ap, arith}
use Rattle.std.specs.Prelude.{◌&&◌, not, ℤ, pos, negsuc, neg_ℤ, ◌+ℤ◌, ◌-ℤ◌, ◌≤ℤ◌}
use Rattle.std.proofs.lemmas.Int.{ints, int_rem_euclid_is}
use Rattle.std.proofs.lemmas.Bool.Decides.{nat_tests}
use Rattle.std.proofs.lemmas.Bool.{not-true}
use Rattle.scr_notation.specs.declared.turn.Turn.TheVariants.{Layers}
use Rattle.scr_notation.specs.Layers.{twelfths, is_twelfths, are_still, is_layer_turn}
use Rattle.scr_notation.proofs.Below.{and_first, and_second, and_true}

-- from -5 to 6
pub record IsTwelfths (z : ℤ) : Type 0 where
  pub low : neg_ℤ (pos 5) ≤ℤ z
  pub high : z ≤ℤ pos 6

pub IsTwelfths-test : (z : ℤ) → IsTrue (is_twelfths z) → IsTwelfths z
IsTwelfths-test (pos n) h = record { low = grind (arith, ints); high = grind (arith, ints, nat_tests) }
IsTwelfths-test (negsuc n) h = record { low = grind (arith, ints, nat_tests); high = grind (arith, ints) }

pub is_twelfths-of : (z : ℤ) → IsTwelfths z → IsTrue (is_twelfths z)
is_twelfths-of z t = let l = t.low in let h = t.high in grind (arith, ints)

-- a number is its twelfths and whole turns
pub record AreTwelfths (z r : ℤ) : Type 0 where
  pub turns : ℕ
  pub turns_more : ℕ
  pub same : z +ℤ pos (12 * turns) ≡ r +ℤ pos (12 * turns_more)
  pub within : IsTwelfths r

pub AreTwelfths-twelfths : (z : ℤ) → AreTwelfths z (twelfths z)
AreTwelfths-twelfths (pos a) = record {
  turns = 0;
  turns_more = (a + 5) / 12;
  same = omega (arith, ints);
  within = record { low = omega (arith, ints); high = omega (arith, ints) };
}
AreTwelfths-twelfths (negsuc a) =
    let m : ℕ = 16 + 11 * a in
    let e : twelfths (negsuc a) ≡ pos (m % 12) -ℤ pos 5 =
    ap (λ x. x -ℤ pos 5) (int_rem_euclid_is (negsuc a +ℤ pos 5) (pos 12) 12 (suc a) m (omega arith) refl (omega (arith, ints))) in
    record {
      turns = suc a;
      turns_more = m / 12;
      same = omega (arith, ints, e);
      within = record { low = omega (arith, ints, e); high = omega (arith, ints, e) };
    }

-- and no other twelfths
pub twelfths-only : (z r : ℤ) → AreTwelfths z r → twelfths z ≡ r
twelfths-only z r t =
    let s = AreTwelfths-twelfths z in
    omega (arith, ints, s.same, s.within.low, s.within.high, t.same, t.within.low, t.within.high)

-- an amount's twelfths are the amount
pub twelfths-own : (z : ℤ) → IsTwelfths z → twelfths z ≡ z
twelfths-own z t = twelfths-only z z (record { turns = 0; turns_more = 0; same = refl; within = t })

-- sums of three
pub twelfths-grouped : (x y z : ℤ) → twelfths (twelfths (x +ℤ y) +ℤ z) ≡ twelfths (x +ℤ twelfths (y +ℤ z))
twelfths-grouped x y z =
    let xy = AreTwelfths-twelfths (x +ℤ y) in
    let yz = AreTwelfths-twelfths (y +ℤ z) in
    let right = AreTwelfths-twelfths (x +ℤ twelfths (y +ℤ z)) in
    twelfths-only (twelfths (x +ℤ y) +ℤ z) (twelfths (x +ℤ twelfths (y +ℤ z)))
    (record {
      turns = yz.turns + (xy.turns_more + right.turns);
      turns_more = yz.turns_more + (xy.turns + right.turns_more);
      same = omega (arith, ints, xy.same, yz.same, right.same);
      within = right.within;
    })

-- the other way round twice
pub twelfths-back : (z : ℤ) → IsTwelfths z → twelfths (neg_ℤ (twelfths (neg_ℤ z))) ≡ z
twelfths-back z t =
    let s = AreTwelfths-twelfths (neg_ℤ z) in
    twelfths-only (neg_ℤ (twelfths (neg_ℤ z))) z
    (record { turns = s.turns; turns_more = s.turns_more; same = omega (arith, ints, s.same); within = t })

-- ---- turns of layers

pub are_still-first : (x y : ℤ) → IsTrue (are_still x y) → x ≡ pos 0
are_still-first x y h = grind (arith, ints)

pub are_still-second : (x y : ℤ) → IsTrue (are_still x y) → y ≡ pos 0
are_still-second x y h = grind (arith, ints)

-- what a turn of layers is
pub record IsLayersTurn (top bottom : ℤ) : Type 0 where
  pub top_within : IsTwelfths top
  pub bottom_within : IsTwelfths bottom
  pub some : are_still top bottom ≡ false

pub layers_parts : (top bottom : ℤ) → IsTrue (is_layer_turn (Layers top bottom)) → IsLayersTurn top bottom
layers_parts top bottom h =
    let both : Bool = is_twelfths top && is_twelfths bottom in
    let within : IsTrue both = and_first both (not (are_still top bottom)) h in
    record {
      top_within = IsTwelfths-test top (and_first (is_twelfths top) (is_twelfths bottom) within);
      bottom_within = IsTwelfths-test bottom (and_second (is_twelfths top) (is_twelfths bottom) within);
      some = not-true (are_still top bottom) (and_second both (not (are_still top bottom)) h);
    }

pub layers_of_parts : (top bottom : ℤ) → IsLayersTurn top bottom → IsTrue (is_layer_turn (Layers top bottom))
layers_of_parts top bottom p =
    and_true (is_twelfths top && is_twelfths bottom) (not (are_still top bottom))
    (and_true (is_twelfths top) (is_twelfths bottom) (is_twelfths-of top p.top_within) (is_twelfths-of bottom p.bottom_within))
    (ap not p.some)

-- the amounts of a turn, modulo 12, are those of one, unless neither layer is turned
pub layers-permitted : (x y : ℤ) → are_still (twelfths x) (twelfths y) ≡ false
    → IsTrue (is_layer_turn (Layers (twelfths x) (twelfths y)))
layers-permitted x y some =
    layers_of_parts (twelfths x) (twelfths y)
    (record { top_within = (AreTwelfths-twelfths x).within; bottom_within = (AreTwelfths-twelfths y).within; some = some })
