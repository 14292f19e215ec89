-- Twelfths of a turn, counted clockwise from 0 to 11.
use Rattle.std.proofs.Common.{rules}
use Rattle.std.proofs.Common.{◌≡◌, ℕ, ◌+◌, ◌*◌, ◌/◌, ◌%◌, ◌<◌, arith}
use Rattle.std.proofs.lemmas.Bool.Decides.{nat_tests}
use Rattle.std.specs.Prelude.{ℤ, pos, negsuc, neg_ℤ, ◌+ℤ◌}
use Rattle.std.proofs.lemmas.Int.{ints}
use Rattle.scr_notation.specs.Layers.{twelfths}
use Rattle.scr_notation.proofs.LayersLaws.{AreTwelfths-twelfths}
use Rattle.scr_sq1.specs.Units.{clockwise}

pub clockwise-lt : (z : ℤ) → clockwise z < 12
clockwise-lt (pos n) = omega arith
clockwise-lt (negsuc n) = omega arith

-- a number and its twelfths clockwise differ by whole turns
record IsClockwise (z : ℤ) (n : ℕ) : Type 0 where
  turns : ℕ
  turns_more : ℕ
  same : z +ℤ pos (12 * turns) ≡ pos (n + 12 * turns_more)

IsClockwise-clockwise : (z : ℤ) → IsClockwise z (clockwise z)
IsClockwise-clockwise (pos n) = record { turns = 0; turns_more = n / 12; same = omega (arith, ints) }
IsClockwise-clockwise (negsuc n) = record { turns = n / 12 + 1; turns_more = 0; same = omega (arith, ints) }

clockwise-only : (z : ℤ) (n : ℕ) → n < 12 → IsClockwise z n → clockwise z ≡ n
clockwise-only (pos m) n lt h = omega (arith, ints, h.same)
clockwise-only (negsuc m) n lt h = omega (arith, ints, h.same)

pub clockwise-twelfths : (z : ℤ) → clockwise (twelfths z) ≡ clockwise z
clockwise-twelfths z = search (arith, rules, AreTwelfths-twelfths, IsClockwise-clockwise, clockwise-only, clockwise-lt)

pub clockwise-sum : (x z : ℤ) → clockwise (x +ℤ z) ≡ (clockwise x + clockwise z) % 12
clockwise-sum x z = grind (arith, nat_tests, IsClockwise-clockwise, clockwise-only, ints)

pub clockwise-back : (z : ℤ) → (clockwise z + clockwise (twelfths (neg_ℤ z))) % 12 ≡ 0
clockwise-back z = grind (arith, nat_tests, clockwise-twelfths, clockwise-sum, ints)
