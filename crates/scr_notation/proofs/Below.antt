-- What tests that are computed over whole ranges tell.
use Rattle.std.proofs.Common.{◌≡◌, ℕ, ◌<◌, Bool, true, false, zero, suc, IsTrue, List, [], ◌∷◌, length, refl, ap, ◌∙◌, eqb, subst, arith, eq-eqb, sym, ⊎_elim}
use Rattle.std.specs.Prelude.{◌&&◌, ◌||◌, ◌==◌, not, All, slice_index}
use Rattle.std.specs.List.{list_any, list_all}
use Rattle.std.proofs.lemmas.Bool.{false≢true, cases_lt, eqb-true}
use Rattle.std.proofs.lemmas.List.Elements.{All-nil, All-cons}
use Rattle.scr_notation.specs.Ranges.{all_below, same}

pub and_first : (a b : Bool) → IsTrue (a && b) → IsTrue a
and_first true b h = refl
and_first false b h = h

pub and_second : (a b : Bool) → IsTrue (a && b) → IsTrue b
and_second true b h = h
and_second false b h = absurd (false≢true h)

pub and_true : (a b : Bool) → IsTrue a → IsTrue b → IsTrue (a && b)
and_true a b h k = ap (λ x. x && b) h ∙ k

-- so it holds of any of them
pub at_below : (p : ℕ → Bool) (n k : ℕ) → IsTrue (all_below p n) → k < n → IsTrue (p k)
unfolding all_below
at_below p zero k h l = absurd (omega arith)
at_below p (suc n) k h l =
    let Q : ℕ → Type 0 = λ i. IsTrue (p i) in
    ⊎_elim (λ b. at_below p n k (and_second (p n) (all_below p n) h) b) (λ g. let e : n ≡ k = omega arith in subst Q e (and_first (p n) (all_below p n) h)) (cases_lt k n)

-- a text is the same as itself
pub same-refl : (xs : List ℕ) → IsTrue (same xs xs)
unfolding same
same-refl [] = refl
same-refl (x ∷ xs) = ap (λ b. b && same xs xs) (eq-eqb x x refl) ∙ same-refl xs

-- and so two that the test tells apart differ
pub not_same : (xs ys : List ℕ) → IsTrue (not (same xs ys)) → xs ≡ ys → ⊥
not_same xs ys h e =
    let Q : List ℕ → Type 0 = λ zs. IsTrue (not (same xs zs)) in
    let s : not (same xs xs) ≡ true = subst Q (sym e) h in
    false≢true (sym (ap not (same-refl xs)) ∙ s)

any_by : (x : ℕ) (xs : List ℕ) (p : ℕ) (b : Bool) → eqb x p ≡ b
    → (IsTrue (list_any (λ y. y == p) xs) → (k : ℕ) × (k < length xs) × (slice_index xs k ≡ p))
    → IsTrue (list_any (λ y. y == p) (x ∷ xs)) → (k : ℕ) × (k < length (x ∷ xs)) × (slice_index (x ∷ xs) k ≡ p)
any_by x xs p true e r h = (0, omega arith, eqb-true x p e)
any_by x xs p false e r h =
    let k = r (sym (ap (λ c. c || list_any (λ y. y == p) xs) e) ∙ h) in
    (suc k.0, omega (arith, k.1), k.2)

-- a number that stands in a list stands at some place of it
pub place_of : (xs : List ℕ) (p : ℕ) → IsTrue (list_any (λ x. x == p) xs)
    → (k : ℕ) × (k < length xs) × (slice_index xs k ≡ p)
place_of [] p h = absurd (false≢true h)
place_of (x ∷ xs) p h = any_by x xs p (eqb x p) refl (place_of xs p) h

pub All-from_test : (p : ℕ → Bool) (P : ℕ → Type 0) → ((x : ℕ) → IsTrue (p x) → P x) → (xs : List ℕ)
    → IsTrue (list_all p xs) → All P xs
All-from_test p P f [] h = All-nil P
All-from_test p P f (x ∷ xs) h = All-cons P x xs (f x (and_first (p x) (list_all p xs) h)) (All-from_test p P f xs (and_second (p x) (list_all p xs) h))
