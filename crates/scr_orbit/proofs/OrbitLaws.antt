-- Laws of orbits, and of turns, told by what they make of the solved one, over any number of places and any modulus.
use Rattle.std.proofs.Common.{rules, ◌≡◌, ℕ, ◌+◌, ◌%◌, ◌<◌, List, length, sym, ap, ◌∙◌, subst, arith}
use Rattle.std.specs.Prelude.{All}
use Rattle.std.proofs.Math.Nat.{mod-add-mod}
use Rattle.scr_combinatorics.specs.Lists.{total, pick}
use Rattle.scr_combinatorics.specs.Permutations.{IsPermutation, parity}
use Rattle.scr_combinatorics.proofs.Picks.{length-pick, pick-in_order, pick-from_order, pick-pick}
use Rattle.scr_combinatorics.proofs.PermutationLaws.{All-permutation, IsPermutation-pick, IsPermutation-numbers_from, total-pick}
use Rattle.scr_combinatorics.proofs.Parities.{parity-pick}
use Rattle.scr_orbit.specs.Monoids.{IsMonoid}
use Rattle.scr_orbit.specs.Orbits.{Orbit, IsOrbit, IsZeroSumOrbit, added_digits, turned_orbit, solved_orbit, orbit_monoid}
use Rattle.scr_orbit.proofs.DigitLaws.{length-added_digits, All-added_digits, total-added_digits, added_digits-assoc, pick-added_digits, length-zeros, All-zeros, total-zeros, added_digits-zeros, added_digits-to_zeros}

-- an orbit is its pieces and its digits
pub same_orbit : (o p : Orbit) → o.pieces ≡ p.pieces → o.digits ≡ p.digits → o ≡ p
same_orbit o p a b = grind arith

pub places_in : (n : ℕ) (ks xs : List ℕ) → IsPermutation n ks → length xs ≡ n → All (λ k. k < length xs) ks
places_in n ks xs h e = subst (λ n. All (λ k. k < n) ks) (sym e) (All-permutation n ks h)

picked_size : (n : ℕ) (r : Orbit) (xs : List ℕ) → IsPermutation n r.pieces → length r.digits ≡ n
    → length (pick xs r.pieces) ≡ length r.digits
picked_size n r xs h e = length-pick xs r.pieces ∙ h.size ∙ sym e

-- ---- what a turn makes of an orbit

-- a turn keeps a valid orbit
pub IsOrbit-turned : (n m : ℕ) (o r : Orbit) → 0 < m → IsOrbit n m o → IsOrbit n m r
    → IsOrbit n m (turned_orbit m o r)
unfolding turned_orbit
IsOrbit-turned n m o r pos a b =
    grind (arith, IsPermutation-pick, length-added_digits, picked_size, length-pick, All-added_digits)

-- the sum of the digits after a turn is their sum and what is added
pub total-turned : (n m : ℕ) (o r : Orbit) → IsOrbit n m o → IsOrbit n m r
    → total (turned_orbit m o r).digits % m ≡ (total o.digits + total r.digits) % m
unfolding turned_orbit
total-turned n m o r a b = grind (arith, total-added_digits, picked_size, total-pick)

-- the parity of the pieces after a turn is the sum of both parities
pub parity-turned : (n m : ℕ) (o r : Orbit) → IsPermutation n o.pieces → IsPermutation n r.pieces
    → parity (turned_orbit m o r).pieces ≡ (parity o.pieces + parity r.pieces) % 2
unfolding turned_orbit
parity-turned n m o r a b = parity-pick n o.pieces r.pieces a b

-- turning by two turns at once is turning by one and then by the other
pub turned-turned : (n m : ℕ) (o r s : Orbit) → IsOrbit n m o → IsOrbit n m r → IsOrbit n m s
    → turned_orbit m (turned_orbit m o r) s ≡ turned_orbit m o (turned_orbit m r s)
unfolding turned_orbit
turned-turned n m o r s a b c =
    let pieces : pick (pick o.pieces r.pieces) s.pieces ≡ pick o.pieces (pick r.pieces s.pieces) =
    pick-pick o.pieces r.pieces s.pieces (places_in n s.pieces r.pieces c.pieces b.pieces.size) in
    let digits : pick (pick o.digits r.pieces) s.pieces ≡ pick o.digits (pick r.pieces s.pieces) =
    pick-pick o.digits r.pieces s.pieces (places_in n s.pieces r.pieces c.pieces b.pieces.size) in
    let spread = pick-added_digits m (pick o.digits r.pieces) r.digits s.pieces (picked_size n r o.digits b.pieces b.size)
    (places_in n s.pieces (pick o.digits r.pieces) c.pieces (length-pick o.digits r.pieces ∙ b.pieces.size)) in
    let grouped = added_digits-assoc m (pick (pick o.digits r.pieces) s.pieces) (pick r.digits s.pieces) s.digits in
    same_orbit _ _ pieces
    (ap (λ xs. added_digits m xs s.digits) spread ∙ grouped ∙ ap (λ xs. added_digits m xs (added_digits m (pick r.digits s.pieces) s.digits)) digits)

-- where nothing moves an orbit stays as it is
pub turned-solved : (n m : ℕ) (o : Orbit) → IsOrbit n m o → turned_orbit m o (solved_orbit n) ≡ o
unfolding turned_orbit solved_orbit
turned-solved n m o a = grind (arith, pick-in_order, added_digits-zeros, same_orbit)

-- and a turn makes itself of the solved one
pub solved-turned : (n m : ℕ) (o : Orbit) → IsOrbit n m o → turned_orbit m (solved_orbit n) o ≡ o
unfolding turned_orbit solved_orbit
solved-turned n m o a = grind (arith, pick-from_order, All-permutation, added_digits-to_zeros, same_orbit)

pub IsOrbit-solved : (n m : ℕ) → 0 < m → IsOrbit n m (solved_orbit n)
unfolding solved_orbit
IsOrbit-solved n m pos = record { pieces = IsPermutation-numbers_from n; size = length-zeros n; below = All-zeros m n pos }

pub orbit_laws : (n m : ℕ) → 0 < m → IsMonoid (orbit_monoid n m) (IsOrbit n m)
orbit_laws n m pos = search (arith, rules, IsOrbit-turned, IsOrbit-solved, turned-turned, solved-turned, turned-solved)

-- ---- where the digits sum to 0

pub IsOrbit-zero_sum : (n m : ℕ) (o : Orbit) → IsZeroSumOrbit n m o → IsOrbit n m o
IsOrbit-zero_sum n m o h = record { pieces = h.pieces; size = h.digits.size; below = h.digits.below }

no_sum : (m d e : ℕ) → d % m ≡ 0 → e % m ≡ 0 → (d + e) % m ≡ 0
no_sum m d e a b = sym (mod-add-mod d m e) ∙ ap (λ z. (z + e) % m) a ∙ ap (λ z. z % m) (omega arith) ∙ b

IsZeroSumOrbit-turned : (n m : ℕ) (o r : Orbit) → 0 < m → IsZeroSumOrbit n m o → IsZeroSumOrbit n m r
    → IsZeroSumOrbit n m (turned_orbit m o r)
IsZeroSumOrbit-turned n m o r pos a b =
    let o_is = IsOrbit-zero_sum n m o a in
    let r_is = IsOrbit-zero_sum n m r b in
    let made = IsOrbit-turned n m o r pos o_is r_is in
    record {
      pieces = made.pieces;
      digits = record {
        size = made.size;
        below = made.below;
        sum_fixed = total-turned n m o r o_is r_is ∙ no_sum m (total o.digits) (total r.digits) a.digits.sum_fixed b.digits.sum_fixed;
      };
    }

pub IsZeroSumOrbit-solved : (n m : ℕ) → 0 < m → IsZeroSumOrbit n m (solved_orbit n)
unfolding solved_orbit
IsZeroSumOrbit-solved n m pos =
    let made = IsOrbit-solved n m pos in
    record { pieces = made.pieces; digits = record { size = made.size; below = made.below; sum_fixed = total-zeros m n } }

pub zero_sum_laws : (n m : ℕ) → 0 < m → IsMonoid (orbit_monoid n m) (IsZeroSumOrbit n m)
zero_sum_laws n m pos =
    let all = orbit_laws n m pos in
    let orbit = IsOrbit-zero_sum n m in
    record {
      kept = λ o r a b. IsZeroSumOrbit-turned n m o r pos a b;
      solved = IsZeroSumOrbit-solved n m pos;
      grouped = λ o r q a b c. all.grouped o r q (orbit o a) (orbit r b) (orbit q c);
      solved_first = λ o a. all.solved_first o (orbit o a);
      solved_last = λ o a. all.solved_last o (orbit o a);
    }
