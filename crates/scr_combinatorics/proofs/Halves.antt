-- Of the permutations numbered 2h and 2h + 1, one is even and one is odd.
use Rattle.std.proofs.Common.{◌≡◌, ℕ, zero, suc, ◌+◌, ◌-◌, ◌*◌, ◌/◌, ◌<◌, ◌≤◌, inl, inr, eqb, ltb, List, [], ◌∷◌, length, refl, sym, ap, ◌∙◌, subst, arith}
use Rattle.std.proofs.lemmas.Bool.{cases_eq, cases_order, eq-eqb, ne_eqb, cond-true, cond-false}
use Rattle.std.proofs.lemmas.Nat.{same_from_place, mod_below}
use Rattle.scr_combinatorics.specs.Lists.{occurrences, lesser_count, IsRearranged, ComesBefore}
use Rattle.scr_combinatorics.specs.Permutations.{IsPermutation, inversions, parity, factorial, permutation_number, permutation_at, half_at}
use Rattle.scr_combinatorics.specs.Numbering.{IsOneToOne}
use Rattle.scr_combinatorics.proofs.Counts.{one_if, one_if-le_one, one_if-same, length-rearranged, lesser_count-rearranged}
use Rattle.scr_combinatorics.proofs.PermutationLaws.{IsRearranged-permutations, IsPermutation-rearranged, occurrences-permutation}
use Rattle.scr_combinatorics.proofs.PermutationNumbers.{permutation_number-lt, permutation_number-injective, permutation_number-order, IsPermutation-at, permutation_number-at}
use Rattle.scr_combinatorics.proofs.Orders.{ComesBefore-irrefl}

-- n! is even for n from 2 on
pub factorial-even : (n : ℕ) → 2 ≤ n → (f : ℕ) × (factorial n ≡ 2 * f)
factorial-even zero le = absurd (omega arith)
factorial-even (suc zero) le = absurd (omega arith)
factorial-even (suc (suc zero)) le = (1, refl)
factorial-even (suc (suc (suc n))) le =
    let half = factorial-even (suc (suc n)) (omega arith) in
    (suc (suc (suc n)) * half.0, ap (λ f. suc (suc (suc n)) * f) half.1 ∙ omega arith)

-- two neighbours over an even width share the higher digit
split_pair : (d e f p q h : ℕ) → p < 2 * f → q < 2 * f → d * (2 * f) + p ≡ 2 * h → e * (2 * f) + q ≡ 2 * h + 1
    → (d ≡ e) × (j : ℕ) × (p ≡ 2 * j) × (q ≡ 2 * j + 1)
split_pair d e f p q h lp lq ep eq =
    let j : ℕ = h - d * f in
    let half : p ≡ 2 * j = omega arith in
    let room : suc p < 2 * f = omega arith in
    let both = same_from_place d (suc p) e q (2 * f) room lq (omega arith) in
    (both.0, j, half, omega (arith, both.1))

-- the base: of two elements there are two numbers
inversions-next_pair : (x y : ℕ) (xs ys : List ℕ) → length xs ≡ 1 → length ys ≡ 1 → (h : ℕ)
    → permutation_number (x ∷ xs) ≡ 2 * h → permutation_number (y ∷ ys) ≡ 2 * h + 1
    → inversions (y ∷ ys) ≡ suc (inversions (x ∷ xs))
inversions-next_pair x y [] ys sx sy h ex ey = absurd (omega arith)
inversions-next_pair x y (x' ∷ xs) [] sx sy h ex ey = absurd (omega arith)
inversions-next_pair x y (x' ∷ []) (y' ∷ []) sx sy h ex ey = grind (arith, one_if-le_one)
inversions-next_pair x y (x' ∷ (x'' ∷ xs)) ys sx sy h ex ey = absurd (omega arith)
inversions-next_pair x y (x' ∷ []) (y' ∷ (y'' ∷ ys)) sx sy h ex ey = absurd (omega arith)

-- one step of the next lemma: the first elements fall below as many, and the rests differ
inversions-next_step : (x y : ℕ) (xs ys : List ℕ) (f : ℕ) → factorial (length xs) ≡ 2 * f → length xs ≡ length ys
    → ((j : ℕ) → permutation_number xs ≡ 2 * j → permutation_number ys ≡ 2 * j + 1 → inversions ys ≡ suc (inversions xs))
    → (h : ℕ) → permutation_number (x ∷ xs) ≡ 2 * h → permutation_number (y ∷ ys) ≡ 2 * h + 1
    → inversions (y ∷ ys) ≡ suc (inversions (x ∷ xs))
inversions-next_step x y xs ys f even size rest h ex ey =
    let even' : factorial (length ys) ≡ 2 * f = ap factorial (sym size) ∙ even in
    let s = split_pair (lesser_count x xs) (lesser_count y ys) f (permutation_number xs) (permutation_number ys) h
    (omega (arith, permutation_number-lt xs)) (omega (arith, permutation_number-lt ys))
    (omega (arith, ap (λ g. lesser_count x xs * g) even)) (omega (arith, ap (λ g. lesser_count y ys * g) even')) in
    omega (arith, s.0, rest s.1 s.2 s.3)

-- any two lists of one length whose numbers are 2h and 2h + 1: the second has one inversion more
inversions-next_at : (n : ℕ) (xs ys : List ℕ) → length xs ≡ n → length ys ≡ n → (h : ℕ) → permutation_number xs ≡ 2 * h
    → permutation_number ys ≡ 2 * h + 1 → inversions ys ≡ suc (inversions xs)
inversions-next_at zero xs [] sx sy h ex ey = absurd (omega arith)
inversions-next_at zero xs (y ∷ ys) sx sy h ex ey = absurd (omega arith)
inversions-next_at (suc zero) xs [] sx sy h ex ey = absurd (omega arith)
inversions-next_at (suc zero) xs (y ∷ []) sx sy h ex ey = absurd (omega arith)
inversions-next_at (suc zero) xs (y ∷ (y' ∷ ys)) sx sy h ex ey = absurd (omega arith)
inversions-next_at (suc (suc n)) [] ys sx sy h ex ey = absurd (omega arith)
inversions-next_at (suc (suc n)) (x ∷ xs) [] sx sy h ex ey = absurd (omega arith)
inversions-next_at (suc (suc zero)) (x ∷ xs) (y ∷ ys) sx sy h ex ey =
    inversions-next_pair x y xs ys (omega arith) (omega arith) h ex ey
inversions-next_at (suc (suc (suc n))) (x ∷ xs) (y ∷ ys) sx sy h ex ey =
    let size : length xs ≡ suc (suc n) = omega arith in
    let half = factorial-even (suc (suc n)) (omega arith) in
    inversions-next_step x y xs ys half.0 (ap factorial size ∙ half.1) (omega arith)
    (inversions-next_at (suc (suc n)) xs ys size (omega arith)) h ex ey

pub inversions-next : (xs ys : List ℕ) → length xs ≡ length ys → (h : ℕ) → permutation_number xs ≡ 2 * h
    → permutation_number ys ≡ 2 * h + 1 → inversions ys ≡ suc (inversions xs)
inversions-next xs ys size h ex ey = inversions-next_at (length ys) xs ys size refl h ex ey

-- exactly one of the permutations numbered 2h and 2h + 1 has a given parity
pub parity-next : (xs ys : List ℕ) → length xs ≡ length ys → (h : ℕ) → permutation_number xs ≡ 2 * h
    → permutation_number ys ≡ 2 * h + 1 → parity xs + parity ys ≡ 1
parity-next xs ys size h ex ey = omega (arith, inversions-next xs ys size h ex ey)

-- two permutations of one parity whose numbers have one half are one
pub half_injective : (n : ℕ) (xs ys : List ℕ) → IsPermutation n xs → IsPermutation n ys → parity xs ≡ parity ys
    → permutation_number xs / 2 ≡ permutation_number ys / 2 → xs ≡ ys
half_injective n xs ys p q same half =
    let h : ℕ = permutation_number xs / 2 in
    let size : length xs ≡ length ys = p.size ∙ sym q.size in
    elim (cases_order (permutation_number xs) (permutation_number ys)) [
      | inl e ↦ permutation_number-injective n xs ys p q e
      | inr (inl lt) ↦ absurd (omega (arith, parity-next xs ys size h (omega arith) (omega arith)))
      | inr (inr gt) ↦ absurd (omega (arith, parity-next ys xs (sym size) h (omega arith) (omega arith)))
    ]

-- of two permutations of one parity, the one that comes first has the lower half
pub half_order : (n : ℕ) (xs ys : List ℕ) → IsPermutation n xs → IsPermutation n ys → parity xs ≡ parity ys
    → ComesBefore xs ys → permutation_number xs / 2 < permutation_number ys / 2
half_order n xs ys p q same before =
    grind (arith, permutation_number-order, IsRearranged-permutations, cases_eq, ComesBefore-irrefl, half_injective)

-- the half of the number of a permutation of at least two numbers is below n! / 2
pub half_lt : (n : ℕ) (xs : List ℕ) → 2 ≤ n → IsPermutation n xs → permutation_number xs / 2 < factorial n / 2
half_lt n xs le p =
    let half = factorial-even n le in
    omega (arith, permutation_number-lt xs, ap factorial p.size, half.1)

-- ---- the permutation of one parity that has a half

-- a permutation of this parity whose number has this half
pub record IsHalf (n odd half : ℕ) (xs : List ℕ) : Type 0 where
  pub permutation : IsPermutation n xs
  pub same_parity : parity xs ≡ odd
  pub number : permutation_number xs / 2 ≡ half

pub IsHalf-half_at : (n odd half : ℕ) → half < factorial n / 2 → odd < 2 → IsHalf n odd half (half_at n odd half)
unfolding half_at
IsHalf-half_at n odd half lt low =
    let xs : List ℕ = permutation_at n (2 * half) in
    let ys : List ℕ = permutation_at n (2 * half + 1) in
    let p : IsPermutation n xs = IsPermutation-at n (2 * half) (omega arith) in
    let q : IsPermutation n ys = IsPermutation-at n (2 * half + 1) (omega arith) in
    let first : permutation_number xs ≡ 2 * half = permutation_number-at n (2 * half) (omega arith) in
    let next : permutation_number ys ≡ 2 * half + 1 = permutation_number-at n (2 * half + 1) (omega arith) in
    let one : parity xs + parity ys ≡ 1 = parity-next xs ys (p.size ∙ sym q.size) half first next in
    let P : List ℕ → Type 0 = IsHalf n odd half in
    elim (cases_eq (parity xs) odd) [
      | inl e ↦
          subst P (sym (cond-true (eqb (parity xs) odd) xs ys (eq-eqb (parity xs) odd e)))
          (record { permutation = p; same_parity = e; number = omega (arith, first) })
      | inr other ↦
          subst P (sym (cond-false (eqb (parity xs) odd) xs ys (ne_eqb (parity xs) odd other)))
          (record { permutation = q; same_parity = omega arith; number = omega (arith, next) })
    ]

pub half_at-number : (n : ℕ) (xs : List ℕ) → 1 < n → IsPermutation n xs
    → half_at n (parity xs) (permutation_number xs / 2) ≡ xs
half_at-number n xs le h =
    let made = IsHalf-half_at n (parity xs) (permutation_number xs / 2) (half_lt n xs (omega arith) h) (mod_below _ 2 (omega arith)) in
    half_injective n _ xs made.permutation h made.same_parity made.number

pub half_at-only : (n odd half : ℕ) (xs : List ℕ) → 1 < n → IsHalf n odd half xs → xs ≡ half_at n odd half
half_at-only n odd half xs le h = grind (arith, half_at-number)

-- there is one for two numbers at least
pub two_from_half : (n half : ℕ) → half < factorial n / 2 → 2 ≤ n
two_from_half zero half lt = absurd (omega arith)
two_from_half (suc zero) half lt = absurd (omega arith)
two_from_half (suc (suc n)) half lt = omega arith

-- the permutations of one parity are numbered by the numbers below n! / 2
pub halves_one_to_one : (n odd : ℕ) → 1 < n → odd < 2
    → IsOneToOne (factorial n / 2) (half_at n odd) (λ xs. permutation_number xs / 2) (λ xs. IsPermutation n xs × (parity xs ≡ odd))
halves_one_to_one n odd le low = record {
  valid = λ i lt. let made = IsHalf-half_at n odd i lt low in (made.permutation, made.same_parity);
  below = λ xs h. half_lt n xs (omega arith) h.0;
  number_again = λ i lt. (IsHalf-half_at n odd i lt low).number;
  state_again = λ xs h. ap (λ z. half_at n z (permutation_number xs / 2)) (sym h.1) ∙ half_at-number n xs le h.0;
}

-- ---- its neighbour

-- the last two elements in the other order
abbrev pub last_swapped : List ℕ → List ℕ
last_swapped [] = []
last_swapped (x ∷ []) = x ∷ []
last_swapped (x ∷ y ∷ []) = y ∷ x ∷ []
last_swapped (x ∷ y ∷ z ∷ xs) = x ∷ last_swapped (y ∷ z ∷ xs)

pub IsRearranged-last_swapped : (xs : List ℕ) → IsRearranged (last_swapped xs) xs
IsRearranged-last_swapped [] k = refl
IsRearranged-last_swapped (x ∷ []) k = refl
IsRearranged-last_swapped (x ∷ y ∷ []) k = omega arith
IsRearranged-last_swapped (x ∷ y ∷ z ∷ xs) k = ap (λ n. one_if (eqb x k) + n) (IsRearranged-last_swapped (y ∷ z ∷ xs) k)

-- a number over an even width has half the digit and half the rest
half_more : (c f g m : ℕ) → f ≡ 2 * g → (c * f + m) / 2 ≡ c * g + m / 2
half_more c f g m e = omega (arith, ap (λ z. c * z) e)

-- where that of the rest has half the old one
half_before : (x : ℕ) (xs ys : List ℕ) → 2 ≤ length xs → IsRearranged ys xs
    → permutation_number ys / 2 ≡ permutation_number xs / 2
    → permutation_number (x ∷ ys) / 2 ≡ permutation_number (x ∷ xs) / 2
half_before x xs ys le same half =
    let even = factorial-even (length xs) le in
    let size : length ys ≡ length xs = length-rearranged ys xs same in
    half_more (lesser_count x ys) (factorial (length ys)) even.0 (permutation_number ys) (ap factorial size ∙ even.1)
    ∙ ap (λ c. c * even.0 + permutation_number ys / 2) (lesser_count-rearranged ys xs same x)
    ∙ ap (λ h. lesser_count x xs * even.0 + h) half
    ∙ sym (half_more (lesser_count x xs) (factorial (length xs)) even.0 (permutation_number xs) even.1)

half-last_swapped : (xs : List ℕ) → 2 ≤ length xs → permutation_number (last_swapped xs) / 2 ≡ permutation_number xs / 2
half-last_swapped [] le = absurd (omega arith)
half-last_swapped (x ∷ []) le = absurd (omega arith)
half-last_swapped (x ∷ y ∷ []) le = omega (arith, one_if-le_one (ltb x y), one_if-le_one (ltb y x))
half-last_swapped (x ∷ y ∷ z ∷ xs) le =
    half_before x (y ∷ z ∷ xs) (last_swapped (y ∷ z ∷ xs)) (omega arith) (IsRearranged-last_swapped (y ∷ z ∷ xs))
    (half-last_swapped (y ∷ z ∷ xs) (omega arith))

-- it isn't the list itself where no element stands twice
last_swapped-other : (xs : List ℕ) → 2 ≤ length xs → ((k : ℕ) → occurrences k xs ≤ 1) → last_swapped xs ≡ xs → ⊥
last_swapped-other [] le once e = absurd (omega arith)
last_swapped-other (x ∷ []) le once e = absurd (omega arith)
last_swapped-other (x ∷ y ∷ []) le once e =
    let same : y ≡ x = cc in
    omega (arith, once x, one_if-same x, ap (λ z. one_if (eqb z x)) same)
last_swapped-other (x ∷ y ∷ z ∷ xs) le once e =
    let rest : last_swapped (y ∷ z ∷ xs) ≡ y ∷ z ∷ xs = cc in
    last_swapped-other (y ∷ z ∷ xs) (omega arith) (λ k. omega (arith, once k)) rest

-- so it is the permutation of the other parity with the same half
pub IsHalf-last_swapped : (n odd half : ℕ) (xs : List ℕ) → 1 < n → IsHalf n odd half xs
    → IsHalf n (1 - odd) half (last_swapped xs)
IsHalf-last_swapped n odd half xs le h =
    let ys : List ℕ = last_swapped xs in
    let p : IsPermutation n xs = h.permutation in
    let few : 2 ≤ length xs = omega (arith, p.size) in
    let q : IsPermutation n ys = IsPermutation-rearranged n xs ys p (λ k. sym (IsRearranged-last_swapped xs k)) in
    let same : permutation_number ys / 2 ≡ permutation_number xs / 2 = half-last_swapped xs few in
    let other : permutation_number ys ≡ permutation_number xs → ⊥ =
    λ e. last_swapped-other xs few (occurrences-permutation n xs p) (permutation_number-injective n ys xs q p e) in
    let size : length xs ≡ length ys = p.size ∙ sym q.size in
    let first = h.number in
    let odd_is = h.same_parity in
    let one : parity xs + parity ys ≡ 1 =
    elim (cases_order (permutation_number xs) (permutation_number ys)) [
      | inl e ↦ absurd (other (sym e))
      | inr (inl lt) ↦ parity-next xs ys size half (omega arith) (omega arith)
      | inr (inr gt) ↦ omega (arith, parity-next ys xs (sym size) half (omega arith) (omega arith))
    ] in
    record { permutation = q; same_parity = omega arith; number = same ∙ first }
