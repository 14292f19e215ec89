-- The inverse of an orbit: that it is one, and what it keeps.
use Rattle.std.proofs.Common.{rules, ◌≡◌, ℕ, suc, ◌+◌, ◌-◌, ◌%◌, ◌<◌, List, [], ◌∷◌, length, map, get_or, refl, sym, ap, ◌∙◌, subst, arith, lit<}
use Rattle.std.specs.Prelude.{All}
use Rattle.std.proofs.Math.Nat.{add-mod-mod, mod_self, mod-eq_of_lt}
use Rattle.std.proofs.lemmas.Nat.{mod_below}
use Rattle.std.proofs.lemmas.List.{length-map, ext_get_or}
use Rattle.std.proofs.lemmas.List.Elements.{All-nil, All-cons, All-head, All-tail}
use Rattle.scr_combinatorics.specs.Lists.{occurrences, total, pick}
use Rattle.scr_combinatorics.specs.Permutations.{IsPermutation, inverse, parity, place_of}
use Rattle.scr_combinatorics.proofs.Parities.{inversions-numbers_from}
use Rattle.scr_combinatorics.proofs.Picks.{length-pick, All-pick}
use Rattle.scr_combinatorics.proofs.PermutationLaws.{IsPermutation-inverse, pick-inverse, inverse-at, length-inverse, place_of-lt, at-place_of}
use Rattle.scr_orbit.specs.Monoids.{IsInverse}
use Rattle.scr_orbit.specs.Orbits.{Orbit, IsOrbit, IsZeroSumOrbit, added_digits, turned_orbit, zeros, solved_orbit, orbit_monoid}
use Rattle.scr_orbit.proofs.DigitLaws.{total-zeros}
use Rattle.scr_orbit.proofs.OrbitLaws.{same_orbit, places_in, total-turned, parity-turned, orbit_laws, IsOrbit-zero_sum}
use Rattle.scr_orbit.proofs.MonoidLaws.{IsInverse-right}

-- ---- the inverse of an orbit

-- what is left of digits to the modulus
abbrev pub opposite_digits : ℕ → List ℕ → List ℕ
opposite_digits m ds = map (λ d. (m - d) % m) ds

All-opposite_digits : (m : ℕ) (ds : List ℕ) → 0 < m → All (λ d. d < m) (opposite_digits m ds)
All-opposite_digits m [] pos = All-nil (λ d. d < m)
All-opposite_digits m (d ∷ ds) pos = All-cons (λ d. d < m) ((m - d) % m) (opposite_digits m ds) (mod_below (m - d) m pos) (All-opposite_digits m ds pos)

none_left : (m d : ℕ) → d < m → (d + (m - d) % m) % m ≡ 0
none_left m d lt =
    let whole : d + (m - d) ≡ m = omega arith in
    add-mod-mod d (m - d) m ∙ ap (λ z. z % m) whole ∙ mod_self m

-- both come to nothing
added-opposite_digits : (m : ℕ) (ds : List ℕ) → All (λ d. d < m) ds
    → added_digits m ds (opposite_digits m ds) ≡ zeros (length ds)
unfolding added_digits
added-opposite_digits m [] h = refl
added-opposite_digits m (d ∷ ds) h = search (arith, rules, none_left, All-head, All-tail, added-opposite_digits m ds)

-- Each piece has the number of the place where the piece with its place's number stands, and what is left of that one's
-- digit.
pub inverse_orbit : ℕ → Orbit → Orbit
inverse_orbit m o = record { pieces = inverse o.pieces; digits = opposite_digits m (pick o.digits (inverse o.pieces)) }

IsOrbit-inverse : (n m : ℕ) (o : Orbit) → 0 < m → IsOrbit n m o → IsOrbit n m (inverse_orbit m o)
unfolding inverse_orbit
IsOrbit-inverse n m o pos h =
    grind (arith, IsPermutation-inverse, length-map, length-pick, length-inverse, All-opposite_digits)

turned-inverse_orbit : (n m : ℕ) (o : Orbit) → IsOrbit n m o → turned_orbit m o (inverse_orbit m o) ≡ solved_orbit n
unfolding inverse_orbit turned_orbit solved_orbit
turned-inverse_orbit n m o h =
    let from : List ℕ = inverse o.pieces in
    let picked : List ℕ = pick o.digits from in
    let below : All (λ d. d < m) picked =
    All-pick (λ d. d < m) o.digits from h.below (places_in n from o.digits (IsPermutation-inverse n o.pieces h.pieces) h.size) in
    let size : length picked ≡ n = length-pick o.digits from ∙ length-inverse o.pieces ∙ h.pieces.size in
    same_orbit _ _ (pick-inverse n o.pieces h.pieces) (added-opposite_digits m picked below ∙ ap zeros size)

pub IsInverse-orbit : (n m : ℕ) (o : Orbit) → 0 < m → IsOrbit n m o
    → IsInverse (orbit_monoid n m) (IsOrbit n m) o (inverse_orbit m o)
IsInverse-orbit n m o pos h =
    IsInverse-right (orbit_monoid n m) (IsOrbit n m) (orbit_laws n m pos) (inverse_orbit m)
    (λ s k. IsOrbit-inverse n m s pos k) (turned-inverse_orbit n m) o h

-- ---- lists that are inverted place by place

-- a list that has at each number of a permutation the number's place
pub inverse_by_places : (xs ys : List ℕ) → IsPermutation (length xs) xs → length ys ≡ length xs
    → ((k : ℕ) → k < length xs → get_or ys (get_or xs k 0) 0 ≡ k) → ys ≡ inverse xs
inverse_by_places xs ys h e each =
    ext_get_or 0 ys (inverse xs) (e ∙ sym (length-inverse xs))
    (λ v lt.
    let n = length xs in
    let there : 0 < occurrences v xs = omega (arith, h.once v (omega arith)) in
    let at : get_or xs (place_of v xs) 0 ≡ v = at-place_of v xs there in
    ap (λ i. get_or ys i 0) (sym at) ∙ each (place_of v xs) (place_of-lt v xs there)
    ∙ sym (inverse-at n xs refl v (omega arith)))

-- and one that has at each place what is left of the digit that is picked there
pub opposite_by_places : (m : ℕ) (xs ks ys : List ℕ) → length ys ≡ length ks
    → ((k : ℕ) → k < length ks → get_or ys k 0 ≡ (m - get_or xs (get_or ks k 0) 0) % m)
    → ys ≡ opposite_digits m (pick xs ks)
opposite_by_places m xs [] [] e each = refl
opposite_by_places m xs [] (y ∷ ys) e each = absurd (omega (arith, e))
opposite_by_places m xs (k ∷ ks) [] e each = absurd (omega (arith, e))
opposite_by_places m xs (k ∷ ks) (y ∷ ys) e each =
    let first : y ≡ (m - get_or xs k 0) % m = each 0 (omega arith) in
    let rest = opposite_by_places m xs ks ys (omega (arith, e)) (λ i l. each (suc i) (omega arith)) in
    cc

-- what is left of a digit is reached by at most one subtraction
pub opposite-digit : (m d : ℕ) → 0 < d → d < m → m - d ≡ (m - d) % m
opposite-digit m d some lt = let less : m - d < m = omega arith in sym (mod-eq_of_lt less)

pub opposite-zero : (m d : ℕ) → d ≡ 0 → 0 ≡ (m - d) % m
opposite-zero m d e = let all : m - d ≡ m = omega (arith, e) in sym (ap (λ z. z % m) all ∙ mod_self m)

-- an orbit that is inverted place by place
pub inverted_by_places : (n m : ℕ) (o : Orbit) (pieces digits : List ℕ) → IsOrbit n m o → length pieces ≡ n
    → length digits ≡ n → ((k : ℕ) → k < n → get_or pieces (get_or o.pieces k 0) 0 ≡ k)
    → ((k : ℕ) → k < n → get_or digits (get_or o.pieces k 0) 0 ≡ (m - get_or o.digits k 0) % m)
    → record { pieces = pieces; digits = digits } ≡ inverse_orbit m o
unfolding inverse_orbit
inverted_by_places n m o pieces digits h long_pieces long_digits each_piece each_digit =
    let xs = o.pieces in
    let size : length xs ≡ n = h.pieces.size in
    let own = subst (λ k. IsPermutation k xs) (sym size) h.pieces in
    same_orbit _ _ (inverse_by_places xs pieces own (long_pieces ∙ sym size) (λ k lt. each_piece k (omega (arith, lt, size))))
    (opposite_by_places m o.digits (inverse xs) digits (long_digits ∙ sym (length-inverse xs ∙ size)) (λ v lt.
    let inside : v < n = omega (arith, lt, length-inverse xs, size) in
    let there : 0 < occurrences v xs = omega (arith, h.pieces.once v inside) in
    ap (λ i. get_or digits i 0) (sym (at-place_of v xs there)) ∙ each_digit (place_of v xs) (omega (arith, place_of-lt v xs there, size))
    ∙ ap (λ i. (m - get_or o.digits i 0) % m) (sym (inverse-at n xs size v inside))))

-- ---- what the inverse keeps

-- digits that sum to 0
pub IsZeroSumOrbit-inverse : (n m : ℕ) (o p : Orbit) → IsZeroSumOrbit n m o → IsOrbit n m p
    → turned_orbit m p o ≡ solved_orbit n → IsZeroSumOrbit n m p
unfolding solved_orbit
IsZeroSumOrbit-inverse n m o p h k e =
    let o_is = IsOrbit-zero_sum n m o h in
    let sum = total-turned n m p o k o_is in
    let none : total (turned_orbit m p o).digits % m ≡ 0 = ap (λ (x : Orbit). total x.digits % m) e ∙ total-zeros m n in
    let left : (total p.digits + total o.digits) % m ≡ total p.digits % m =
    sym (add-mod-mod (total p.digits) (total o.digits) m) ∙ ap (λ z. (total p.digits + z) % m) h.digits.sum_fixed ∙ ap (λ z. z % m) (omega arith) in
    record {
      pieces = k.pieces;
      digits = record { size = k.size; below = k.below; sum_fixed = sym left ∙ sym sum ∙ none };
    }

same_parity : (a b : ℕ) → a < 2 → b < 2 → (a + b) % 2 ≡ 0 → a ≡ b
same_parity a b h k e = omega arith

-- and the parity
pub parity-inverse_orbit : (n m : ℕ) (o p : Orbit) → IsOrbit n m o → IsOrbit n m p → turned_orbit m p o ≡ solved_orbit n
    → parity p.pieces ≡ parity o.pieces
unfolding solved_orbit
parity-inverse_orbit n m o p h k e =
    let sum = parity-turned n m p o k.pieces h.pieces in
    let even : parity (turned_orbit m p o).pieces ≡ 0 = ap (λ (x : Orbit). parity x.pieces) e ∙ ap (λ z. z % 2) (inversions-numbers_from 0 n) in
    let one : parity p.pieces < 2 = mod_below _ 2 (lit< tt) in
    let other : parity o.pieces < 2 = mod_below _ 2 (lit< tt) in
    let none : (parity p.pieces + parity o.pieces) % 2 ≡ 0 = sym sum ∙ even in
    same_parity (parity p.pieces) (parity o.pieces) one other none
