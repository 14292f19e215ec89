-- Sets of places: how many there are, their numbers and their order.
use Rattle.std.proofs.Common.{rules, ◌≡◌, ℕ, zero, suc, ◌+◌, pred, ◌-◌, ◌*◌, ◌^◌, ◌<◌, ◌≤◌, inl, inr, eqb, ltb, List, [], ◌∷◌, length, refl, sym, ap, ◌∙◌, subst, arith}
use Rattle.std.specs.Coded.{Unit-prop}
use Rattle.std.proofs.Props.{props}
use Rattle.std.proofs.lemmas.Bool.{cases_eq, cases_lt, eq-eqb, ne_eqb, lt-ltb, le-ltb, cond-true, cond-false}
use Rattle.std.proofs.Math.Nat.{pow-suc}
use Rattle.scr_combinatorics.specs.Lists.{ComesBefore}
use Rattle.scr_combinatorics.specs.PlaceSets.{binomial, IsPlaceSetFrom, IsPlaceSet, place_set_number_from, place_set_number, place_set_from, place_set_at}
use Rattle.scr_combinatorics.specs.Numbering.{IsOneToOne}
use Rattle.scr_combinatorics.proofs.Orders.{same_from_order}

-- ---- a fact with one proof, as a ghost field wants

IsPlaceSetFrom-prop : (low n : ℕ) (xs : List ℕ) → IsProp (IsPlaceSetFrom low n xs)
IsPlaceSetFrom-prop low n [] = Unit-prop
IsPlaceSetFrom-prop low n (x ∷ xs) = hlevel (props, IsPlaceSetFrom-prop (suc x) n xs)

pub IsPlaceSet-prop : (n k : ℕ) (xs : List ℕ) → IsProp (IsPlaceSet n k xs)
IsPlaceSet-prop n k xs = hlevel (props, IsPlaceSetFrom-prop 0 n xs)

-- ---- binomials

pub binomial-zero : (n : ℕ) → binomial n 0 ≡ 1
binomial-zero zero = refl
binomial-zero (suc n) = refl

-- no set has more places than there are
pub binomial-above : (n k : ℕ) → n < k → binomial n k ≡ 0
binomial-above n zero lt = absurd (omega arith)
binomial-above zero (suc k) lt = refl
binomial-above (suc n) (suc k) lt = omega (arith, binomial-above n k (omega arith), binomial-above n (suc k) (omega arith))

pub binomial-le_pow : (n k : ℕ) → binomial n k ≤ 2 ^ n
binomial-le_pow zero zero = omega arith
binomial-le_pow zero (suc k) = omega arith
binomial-le_pow (suc n) zero = omega (arith, pow-suc 2 n, binomial-zero n, binomial-le_pow n zero)
binomial-le_pow (suc n) (suc k) = omega (arith, pow-suc 2 n, binomial-le_pow n k, binomial-le_pow n (suc k))

next_step : (a b c k d : ℕ) → a * suc k ≡ c * suc d → b * suc (suc k) ≡ a * d → (a + b) * suc (suc k) ≡ (c + a) * suc d
next_step a b c k d p q = omega arith

next_end : (a b c m : ℕ) → a ≡ 0 → b ≡ 0 → (a + b) * m ≡ (c + a) * 0
next_end a b c m p q = rw (p, q) (omega arith)

-- from one size to the next
pub binomial-next : (n k d : ℕ) → n ≡ k + d → binomial n (suc k) * suc k ≡ binomial n k * d
binomial-next zero zero d e = omega arith
binomial-next zero (suc k) d e = absurd (omega arith)
binomial-next (suc n) zero d e = omega (arith, binomial-next n zero n (omega arith), binomial-zero n)
binomial-next (suc n) (suc k) zero e =
    next_end (binomial n (suc k)) (binomial n (suc (suc k))) (binomial n k) (suc (suc k)) (binomial-above n (suc k) (omega arith)) (binomial-above n (suc (suc k)) (omega arith))
binomial-next (suc n) (suc k) (suc d) e =
    next_step (binomial n (suc k)) (binomial n (suc (suc k))) (binomial n k) k d (binomial-next n k (suc d) (omega arith)) (binomial-next n (suc k) d (omega arith))

-- ---- the number

pub number-here : (low count x : ℕ) (xs : List ℕ) → x ≡ low
    → place_set_number_from low (suc count) (x ∷ xs) ≡ place_set_number_from (suc low) count xs
number-here low count x xs e = cond-true (eqb x low) _ _ (eq-eqb x low e)

pub number-later : (low count x : ℕ) (xs : List ℕ) → (x ≡ low → ⊥)
    → place_set_number_from low (suc count) (x ∷ xs) ≡ binomial count (length xs) + place_set_number_from (suc low) count (x ∷ xs)
number-later low count x xs e = cond-false (eqb x low) _ _ (ne_eqb x low e)

-- a set that begins at `low`, from there on
from_low : (low n x : ℕ) (xs : List ℕ) → x ≡ low → IsPlaceSetFrom low n (x ∷ xs) → IsPlaceSetFrom (suc low) n xs
from_low low n x xs e h = subst (λ z. IsPlaceSetFrom (suc z) n xs) e h.2

-- a set that does not begin at `low` is one above it
from_above : (low n x : ℕ) (xs : List ℕ) → (x ≡ low → ⊥) → IsPlaceSetFrom low n (x ∷ xs)
    → IsPlaceSetFrom (suc low) n (x ∷ xs)
from_above low n x xs e h = let le = h.0 in (omega arith, h.1, h.2)

pub IsPlaceSetFrom-lower : (low n : ℕ) (xs : List ℕ) → IsPlaceSetFrom (suc low) n xs → IsPlaceSetFrom low n xs
IsPlaceSetFrom-lower low n [] h = tt
IsPlaceSetFrom-lower low n (x ∷ xs) h = let le = h.0 in (omega arith, h.1, h.2)

pub number_from-lt : (low count n : ℕ) (xs : List ℕ) → n ≡ low + count → IsPlaceSetFrom low n xs
    → place_set_number_from low count xs < binomial count (length xs)
number_from-lt low zero n [] e h = omega arith
number_from-lt low zero n (x ∷ xs) e h = let le = h.0 in let lt = h.1 in absurd (omega arith)
number_from-lt low (suc count) n [] e h = omega arith
number_from-lt low (suc count) n (x ∷ xs) e h =
    elim (cases_eq x low) [
      | inl here ↦ omega (arith, number-here low count x xs here, number_from-lt (suc low) count n xs (omega arith) (from_low low n x xs here h))
      | inr later ↦ omega (arith, number-later low count x xs later, number_from-lt (suc low) count n (x ∷ xs) (omega arith) (from_above low n x xs later h))
    ]

number_from-order : (low count n : ℕ) (xs ys : List ℕ) → n ≡ low + count → length xs ≡ length ys
    → IsPlaceSetFrom low n xs → IsPlaceSetFrom low n ys → ComesBefore xs ys
    → place_set_number_from low count xs < place_set_number_from low count ys
number_from-order low count n [] ys e size p q before = absurd before
number_from-order low count n (x ∷ xs) [] e size p q before = absurd before
number_from-order low zero n (x ∷ xs) (y ∷ ys) e size p q before = let le = p.0 in let lt = p.1 in absurd (omega arith)
number_from-order low (suc count) n (x ∷ xs) (y ∷ ys) e size p q before =
    elim (cases_eq x low) [
      | inl here ↦ elim (cases_eq y low) [
        | inl both ↦ elim before [
          | inl lt ↦ absurd (omega arith)
          | inr rest ↦ omega (
            arith,
            number-here low count x xs here,
            number-here low count y ys both,
            number_from-order (suc low) count n xs ys (omega arith) (omega arith) (from_low low n x xs here p) (from_low low n y ys both q) rest.1,
          )
        ]
        | inr later ↦ omega (
          arith,
          number-here low count x xs here,
          number-later low count y ys later,
          number_from-lt (suc low) count n xs (omega arith) (from_low low n x xs here p),
          ap (λ m. binomial count (pred m)) size,
        )
      ]
      | inr above ↦
          let lx = p.0 in let ly = q.0 in
          let other : y ≡ low → ⊥ = λ same. elim before [ inl lt ↦ omega arith | inr rest ↦ let alike = rest.0 in omega arith ] in
          omega (
            arith,
            number-later low count x xs above,
            number-later low count y ys other,
            number_from-order (suc low) count n (x ∷ xs) (y ∷ ys) (omega arith) size (from_above low n x xs above p) (from_above low n y ys other q) before,
            ap (λ m. binomial count (pred m)) size,
          )
    ]

-- the numbers of sets of k of n places are below n over k
pub place_set_number-lt : (n k : ℕ) (xs : List ℕ) → IsPlaceSet n k xs → place_set_number n xs < binomial n k
place_set_number-lt n k xs h = omega (arith, number_from-lt 0 n n xs (omega arith) h.increasing, ap (binomial n) h.size)

-- of two sets, the one that comes first has the lower number
pub place_set_number-order : (n k : ℕ) (xs ys : List ℕ) → IsPlaceSet n k xs → IsPlaceSet n k ys → ComesBefore xs ys
    → place_set_number n xs < place_set_number n ys
place_set_number-order n k xs ys p q before = number_from-order 0 n n xs ys (omega arith) (p.size ∙ sym q.size) p.increasing q.increasing before

pub place_set_number-injective : (n k : ℕ) (xs ys : List ℕ) → IsPlaceSet n k xs → IsPlaceSet n k ys
    → place_set_number n xs ≡ place_set_number n ys → xs ≡ ys
place_set_number-injective n k xs ys p q e =
    same_from_order (IsPlaceSet n k) (place_set_number n) (place_set_number-order n k) xs ys (p.size ∙ sym q.size) p q e

-- ---- the set with a number

pub set-takes : (low count k r : ℕ) → r < binomial count k
    → place_set_from low (suc count) (suc k) r ≡ low ∷ place_set_from (suc low) count k r
set-takes low count k r lt = cond-true (ltb r (binomial count k)) _ _ (lt-ltb r (binomial count k) lt)

pub set-skips : (low count k r : ℕ) → binomial count k ≤ r
    → place_set_from low (suc count) (suc k) r ≡ place_set_from (suc low) count (suc k) (r - binomial count k)
set-skips low count k r ge = cond-false (ltb r (binomial count k)) _ _ (le-ltb r (binomial count k) ge)

-- a list of k places from `low` on with number r
pub record HasNumber (low count n k r : ℕ) (xs : List ℕ) : Type 0 where
  pub size : length xs ≡ k
  pub increasing : IsPlaceSetFrom low n xs
  pub number : place_set_number_from low count xs ≡ r

HasNumber-later : (low count n k r : ℕ) (xs : List ℕ) → HasNumber (suc low) count n (suc k) r xs
    → HasNumber low (suc count) n (suc k) (binomial count k + r) xs
HasNumber-later low count n k r [] h = absurd (omega (arith, h.size))
HasNumber-later low count n k r (x ∷ xs) h = grind (arith, IsPlaceSetFrom-lower, number-later)

pub place_set_from-number : (low count n k r : ℕ) → n ≡ low + count → r < binomial count k
    → HasNumber low count n k r (place_set_from low count k r)
place_set_from-number low zero n zero r e lt = record { size = refl; increasing = tt; number = omega arith }
place_set_from-number low zero n (suc k) r e lt = absurd (omega arith)
place_set_from-number low (suc count) n zero r e lt = record { size = refl; increasing = tt; number = omega arith }
place_set_from-number low (suc count) n (suc k) r e lt =
    elim (cases_lt r (binomial count k)) [
      | inl takes ↦
          let rest = place_set_from-number (suc low) count n k r (omega arith) takes in
          let xs : List ℕ = place_set_from (suc low) count k r in
          rw (set-takes low count k r takes) (record {
            size = ap suc rest.size;
            increasing = (omega arith, omega arith, rest.increasing);
            number = number-here low count low xs refl ∙ rest.number;
          })
      | inr skips ↦
          let s : ℕ = r - binomial count k in
          let rest = place_set_from-number (suc low) count n (suc k) s (omega arith) (omega arith) in
          let xs : List ℕ = place_set_from (suc low) count (suc k) s in
          let back : binomial count k + s ≡ r = omega arith in
          rw (set-skips low count k r skips) (subst (λ t. HasNumber low (suc count) n (suc k) t xs) back (HasNumber-later low count n k s xs rest))
    ]

pub HasNumber-at : (n k r : ℕ) → r < binomial n k → HasNumber 0 n n k r (place_set_at n k r)
unfolding place_set_at
HasNumber-at n k r lt = place_set_from-number 0 n n k r (omega arith) lt

pub IsPlaceSet-at : (n k r : ℕ) → r < binomial n k → IsPlaceSet n k (place_set_at n k r)
IsPlaceSet-at n k r lt = let h = HasNumber-at n k r lt in record { size = h.size; increasing = h.increasing }

pub place_set_number-at : (n k r : ℕ) → r < binomial n k → place_set_number n (place_set_at n k r) ≡ r
place_set_number-at n k r lt = (HasNumber-at n k r lt).number

pub place_set_at-number : (n k : ℕ) (xs : List ℕ) → IsPlaceSet n k xs → place_set_at n k (place_set_number n xs) ≡ xs
place_set_at-number n k xs h =
    search (arith, rules, place_set_number-lt, place_set_number-injective, IsPlaceSet-at, place_set_number-at)

-- sets of k of n places are numbered by the numbers below n over k
pub place_sets_one_to_one : (n k : ℕ)
    → IsOneToOne (binomial n k) (place_set_at n k) (place_set_number n) (IsPlaceSet n k)
place_sets_one_to_one n k =
    search (arith, rules, IsPlaceSet-at, place_set_number-lt, place_set_number-at, place_set_at-number)
