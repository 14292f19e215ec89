-- Counting by tests that agree, over ranges, and over pairs.
use Rattle.std.proofs.Common.{◌≡◌, ◌==◌, ℕ, zero, suc, ◌+◌, ◌*◌, ◌/◌, ◌%◌, ◌<◌, ◌≤◌, Bool, true, false, cond, ◌&&◌, ◌||◌, refl, ◌∙◌, inl, inr, add-zero, arith}
use Rattle.std.proofs.lemmas.Bool.{cases_eq, eq-eqb, ne_eqb}
use Rattle.std.proofs.lemmas.Nat.{div-mul-add, mod-mul-add}
use Rattle.std.proofs.Math.Nat.{mul-suc, suc-mul, add-suc, zero-mul, mul-zero, mul_comm}
use Rattle.std.specs.Prelude.{IsTrue, ◌↔◌}
use Rattle.scr_draw.specs.Count.{count_below}

-- tests that agree below n count the same
pub count_same : (p q : ℕ → Bool) (n : ℕ) → ((v : ℕ) → v < n → p v ≡ q v) → count_below p n ≡ count_below q n
unfolding count_below
count_same p q zero h = refl
count_same p q (suc n) h =
    let before = count_same p q n (λ v lt. h v (omega arith)) in
    let last = h n (omega arith) in
    rw (before, last) refl

-- a test that nothing passes
pub count_none : (p : ℕ → Bool) (n : ℕ) → ((v : ℕ) → v < n → p v ≡ false) → count_below p n ≡ 0
unfolding count_below
count_none p zero h = refl
count_none p (suc n) h =
    let before = count_none p n (λ v lt. h v (omega arith)) in
    let last = h n (omega arith) in
    rw (before, last) refl

-- one number more
pub count_step : (p : ℕ → Bool) (n : ℕ) → count_below p (suc n) ≡ count_below p n + cond (p n) 1 0
unfolding count_below
count_step p n = refl

pub count_zero : (p : ℕ → Bool) → count_below p 0 ≡ 0
unfolding count_below
count_zero p = refl

-- a range after another
pub count_add : (p : ℕ → Bool) (a b : ℕ) → count_below p (a + b) ≡ count_below p a + count_below (λ v. p (a + v)) b
count_add p a zero = rw (add-zero a, count_zero (λ v. p (a + v)), add-zero) refl
count_add p a (suc b) =
    let ih = count_add p a b in
    let here = count_step p (a + b) in
    let there = count_step (λ v. p (a + v)) b in
    rw add-suc (omega (arith, ih, here, there))

-- the number i alone, where it is not below n
is_none : (i n : ℕ) → n ≤ i → count_below (λ v. v == i) n ≡ 0
is_none i n h = count_none (λ v. v == i) n (λ v lt. ne_eqb v i (λ e. omega arith))

-- and where it is
pub count_one : (i n : ℕ) → i < n → count_below (λ v. v == i) n ≡ 1
count_one i zero h = absurd (omega arith)
count_one i (suc n) h =
    elim (cases_eq n i) [
      | inl e ↦
          let test = eq-eqb n i e in
          let none = is_none i n (omega arith) in
          let step = count_step (λ v. v == i) n in
          step ∙ rw (test, none) refl
      | inr other ↦
          let test = ne_eqb n i other in
          let one = count_one i n (omega arith) in
          let step = count_step (λ v. v == i) n in
          step ∙ rw (test, one) refl
    ]

-- each of q runs of `count` numbers has one at place i
pub count_runs : (count i q : ℕ) → i < count → count_below (λ v. v % count == i) (q * count) ≡ q
count_runs count i zero h = rw zero-mul (count_zero (λ v. v % count == i))
count_runs count i (suc q) h =
    let run = λ (v : ℕ). v % count == i in
    let last : count_below (λ v. run (q * count + v)) count ≡ count_below (λ v. v == i) count =
    count_same (λ v. run (q * count + v)) (λ v. v == i) count
    (λ v lt. rw (mod-mul-add q count v lt) refl) in
    let one = count_one i count h in
    let before = count_runs count i q h in
    let both = count_add run (q * count) count in
    rw suc-mul (omega (arith, both, before, last, one))

-- a choice by a first test, or by a second together with a fixed answer
one_choice : (a b x : Bool) → (a ≡ true → b ≡ false) → cond (a || (b && x)) 1 0 ≡ cond a 1 0 + cond x (cond b 1 0) 0
one_choice a b x h = grind arith

count_choice : (p m : ℕ → Bool) (x : Bool) (n : ℕ) → ((v : ℕ) → v < n → p v ≡ true → m v ≡ false)
    → count_below (λ v. p v || (m v && x)) n ≡ count_below p n + cond x (count_below m n) 0
count_choice p m true zero h = rw (count_zero p, count_zero m, count_zero (λ v. p v || (m v && true))) refl
count_choice p m false zero h = rw (count_zero p, count_zero (λ v. p v || (m v && false))) refl
count_choice p m true (suc n) h =
    let ih = count_choice p m true n (λ v lt. h v (omega arith)) in
    let here = one_choice (p n) (m n) true (h n (omega arith)) in
    omega (arith, ih, here, count_step (λ v. p v || (m v && true)) n, count_step p n, count_step m n)
count_choice p m false (suc n) h = grind arith

-- the sum of a step of `count_pairs`
sums : (x : Bool) (before p m t next u v : ℕ) → u ≡ before + m * t → v ≡ p + cond x m 0 → next ≡ t + cond x 1 0
    → u + v ≡ before + p + m * next
sums x before p m t next u v eu ev en = grind arith

-- Pairs of a number below a radix and one below b, as the numbers below radix * b: those whose first
-- number passes p, or whose first number passes m and the second t.
pub count_pairs : (p m t : ℕ → Bool) (radix : ℕ) → ((v : ℕ) → v < radix → p v ≡ true → m v ≡ false) → (b : ℕ)
    → count_below (λ n. p (n % radix) || (m (n % radix) && t (n / radix))) (radix * b)
    ≡ count_below p radix * b + count_below m radix * count_below t b
count_pairs p m t radix h zero = grind (arith, mul-zero, count_zero)
count_pairs p m t radix h (suc b) =
    let pair = λ (n : ℕ). p (n % radix) || (m (n % radix) && t (n / radix)) in
    let choice = λ (v : ℕ). p v || (m v && t b) in
    let turned = mul_comm radix b in
    let last : count_below (λ v. pair (radix * b + v)) radix ≡ count_below choice radix =
    count_same (λ v. pair (radix * b + v)) choice radix
    (λ v lt. rw (turned, mod-mul-add b radix v lt, div-mul-add b radix v lt) refl) in
    let both = count_add pair (radix * b) radix in
    let ih = count_pairs p m t radix h b in
    let chosen = count_choice p m (t b) radix h in
    rw (mul-suc radix b, mul-suc (count_below p radix) b)
    (both ∙ sums (t b) (count_below p radix * b) (count_below p radix) (count_below m radix) (count_below t b) (count_below t (suc b)) _ _
    ih (last ∙ chosen) (count_step t b))

-- tests that tell the same agree
pub tests_agree : {P : Type 0} (a b : Bool) → (IsTrue a ↔ P) → (IsTrue b ↔ P) → a ≡ b
tests_agree a b ha hb = grind arith
