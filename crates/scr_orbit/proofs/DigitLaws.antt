-- Laws of digits that are added place by place.
use Rattle.std.proofs.Common.{rules, ◌≡◌, ℕ, zero, suc, ◌+◌, ◌%◌, ◌<◌, List, [], ◌∷◌, length, slice_index, refl, sym, ap, ◌∙◌, arith, add_assoc}
use Rattle.std.proofs.Math.Nat.{add-mod-mod, mod-add-mod, mod-eq_of_lt, zero-mod}
use Rattle.std.proofs.lemmas.Nat.{mod_below}
use Rattle.std.proofs.lemmas.List.Elements.{All-nil, All-cons, All-head, All-tail}
use Rattle.std.specs.Prelude.{All}
use Rattle.scr_combinatorics.specs.Lists.{total, pick}
use Rattle.scr_orbit.specs.Orbits.{added_digits, zeros}

pub length-added_digits : (m : ℕ) (ds es : List ℕ) → length ds ≡ length es → length (added_digits m ds es) ≡ length ds
unfolding added_digits
length-added_digits m [] es h = refl
length-added_digits m (d ∷ ds) [] h = absurd (omega (arith, h))
length-added_digits m (d ∷ ds) (e ∷ es) h = ap suc (length-added_digits m ds es (omega (arith, h)))

-- they are digits
pub All-added_digits : (m : ℕ) (ds es : List ℕ) → 0 < m → All (λ d. d < m) (added_digits m ds es)
unfolding added_digits
All-added_digits m [] es pos = All-nil (λ d. d < m)
All-added_digits m (d ∷ ds) [] pos = All-nil (λ d. d < m)
All-added_digits m (d ∷ ds) (e ∷ es) pos = grind (arith, All-cons, mod_below, All-added_digits m ds es pos)

-- each place has its sum
pub added_digits-at : (m : ℕ) (ds es : List ℕ) (k : ℕ) → length ds ≡ length es → k < length ds
    → slice_index (added_digits m ds es) k ≡ (slice_index ds k + slice_index es k) % m
unfolding added_digits
added_digits-at m [] es k h lt = absurd (omega (arith, lt))
added_digits-at m (d ∷ ds) [] k h lt = absurd (omega (arith, h))
added_digits-at m (d ∷ ds) (e ∷ es) zero h lt = refl
added_digits-at m (d ∷ ds) (e ∷ es) (suc k) h lt = added_digits-at m ds es k (omega (arith, h)) (omega (arith, lt))

-- a list that has the sum at each place is the sum
pub added_digits_by_places : (m : ℕ) (xs ds es : List ℕ) → length xs ≡ length ds → length ds ≡ length es
    → ((k : ℕ) → k < length ds → slice_index xs k ≡ (slice_index ds k + slice_index es k) % m)
    → xs ≡ added_digits m ds es
unfolding added_digits
added_digits_by_places m [] [] es e g h = refl
added_digits_by_places m [] (d ∷ ds) es e g h = absurd (omega (arith, e))
added_digits_by_places m (x ∷ xs) [] es e g h = absurd (omega (arith, e))
added_digits_by_places m (x ∷ xs) (d ∷ ds) [] e g h = absurd (omega (arith, g))
added_digits_by_places m (x ∷ xs) (d ∷ ds) (y ∷ es) e g h =
    let first : x ≡ (d + y) % m = h 0 (omega arith) in
    let rest = added_digits_by_places m xs ds es (omega (arith, e)) (omega (arith, g)) (λ k l. h (suc k) (omega arith)) in
    cc

sum_step : (m d e s t u : ℕ) → s % m ≡ (t + u) % m → ((d + e) % m + s) % m ≡ (d + t + (e + u)) % m
sum_step m d e s t u h =
    mod-add-mod (d + e) m s ∙ sym (add-mod-mod (d + e) s m) ∙ ap (λ z. (d + e + z) % m) h ∙ add-mod-mod (d + e) (t + u) m
    ∙ ap (λ z. z % m) (omega arith)

-- the sum of added digits is the sum of both sums
pub total-added_digits : (m : ℕ) (ds es : List ℕ) → length ds ≡ length es
    → total (added_digits m ds es) % m ≡ (total ds + total es) % m
unfolding added_digits
total-added_digits m [] [] h = refl
total-added_digits m [] (e ∷ es) h = absurd (omega (arith, h))
total-added_digits m (d ∷ ds) [] h = absurd (omega (arith, h))
total-added_digits m (d ∷ ds) (e ∷ es) h = grind (arith, sum_step, total-added_digits m ds es (omega (arith, h)))

same_sum : (m d e f : ℕ) → ((d + e) % m + f) % m ≡ (d + (e + f) % m) % m
same_sum m d e f = mod-add-mod (d + e) m f ∙ ap (λ z. z % m) (add_assoc d e f) ∙ sym (add-mod-mod d (e + f) m)

-- whichever are added first
pub added_digits-assoc : (m : ℕ) (ds es fs : List ℕ)
    → added_digits m (added_digits m ds es) fs ≡ added_digits m ds (added_digits m es fs)
unfolding added_digits
added_digits-assoc m [] es fs = refl
added_digits-assoc m (d ∷ ds) [] fs = refl
added_digits-assoc m (d ∷ ds) (e ∷ es) [] = refl
added_digits-assoc m (d ∷ ds) (e ∷ es) (f ∷ fs) = grind (arith, same_sum, added_digits-assoc m ds es fs)

-- sums are picked as their parts are
pub pick-added_digits : (m : ℕ) (ds es ks : List ℕ) → length ds ≡ length es → All (λ k. k < length ds) ks
    → pick (added_digits m ds es) ks ≡ added_digits m (pick ds ks) (pick es ks)
unfolding added_digits
pick-added_digits m ds es [] h below = refl
pick-added_digits m ds es (k ∷ ks) h below =
    search (arith, rules, added_digits-at, All-head, All-tail, pick-added_digits m ds es ks h)

pub length-zeros : (n : ℕ) → length (zeros n) ≡ n
length-zeros zero = refl
length-zeros (suc n) = ap suc (length-zeros n)

pub All-zeros : (m n : ℕ) → 0 < m → All (λ d. d < m) (zeros n)
All-zeros m zero pos = All-nil (λ d. d < m)
All-zeros m (suc n) pos = All-cons (λ d. d < m) 0 (zeros n) pos (All-zeros m n pos)

pub total-zeros : (m n : ℕ) → total (zeros n) % m ≡ 0
total-zeros m zero = zero-mod m
total-zeros m (suc n) = ap (λ z. z % m) (omega arith) ∙ total-zeros m n

pub zeros-at : (n k : ℕ) → slice_index (zeros n) k ≡ 0
zeros-at zero k = refl
zeros-at (suc n) zero = refl
zeros-at (suc n) (suc k) = zeros-at n k

-- zeros add nothing
pub added_digits-zeros : (m : ℕ) (ds : List ℕ) → All (λ d. d < m) ds → added_digits m ds (zeros (length ds)) ≡ ds
unfolding added_digits
added_digits-zeros m [] h = refl
added_digits-zeros m (d ∷ ds) h =
    ap (λ x. x ∷ added_digits m ds (zeros (length ds))) (ap (λ z. z % m) (omega arith) ∙ mod-eq_of_lt (All-head (λ x. x < m) d ds h))
    ∙ ap (λ xs. d ∷ xs) (added_digits-zeros m ds (All-tail (λ x. x < m) d ds h))

-- and what is added to zeros is there
pub added_digits-to_zeros : (m n : ℕ) (ks ds : List ℕ) → All (λ d. d < m) ds → length ks ≡ length ds
    → added_digits m (pick (zeros n) ks) ds ≡ ds
unfolding added_digits
added_digits-to_zeros m n [] [] h e = refl
added_digits-to_zeros m n [] (d ∷ ds) h e = absurd (omega (arith, e))
added_digits-to_zeros m n (k ∷ ks) [] h e = refl
added_digits-to_zeros m n (k ∷ ks) (d ∷ ds) h e =
    ap (λ x. x ∷ added_digits m (pick (zeros n) ks) ds) (ap (λ z. (z + d) % m) (zeros-at n k) ∙ ap (λ z. z % m) (omega arith) ∙ mod-eq_of_lt (All-head (λ x. x < m) d ds h))
    ∙ ap (λ xs. d ∷ xs) (added_digits-to_zeros m n ks ds (All-tail (λ x. x < m) d ds h) (omega (arith, e)))
