-- Each number below the count is the answer of equally many accepted numbers.
use Rattle.std.proofs.Common.{◌≡◌, ◌==◌, ℕ, ◌+◌, ◌-◌, ◌*◌, ◌/◌, ◌%◌, ◌^◌, ◌<◌, ◌≤◌, Bool, ◌&&◌, refl, arith}
use Rattle.std.proofs.lemmas.Bool.{and_left, le-ltb, lt-ltb}
use Rattle.std.proofs.Math.Nat.{div-mul-le_self}
use Rattle.std.specs.Prelude.{IsTrue, ◌↔◌, nat_lt}
use Rattle.scr_draw.specs.Attempt.{is_accepted, quotient}
use Rattle.scr_draw.specs.Count.{IsCount, count_below}
use Rattle.scr_draw.proofs.Counting.{count_add, count_none, count_runs, count_same}

-- q runs of `count` numbers below a bound have q numbers at place i
count_in_runs : (count i q bound : ℕ) → i < count → q * count ≤ bound
    → count_below (λ v. nat_lt v (q * count) && (v % count == i)) bound ≡ q
count_in_runs count i q bound h fits =
    let test = λ (v : ℕ). nat_lt v (q * count) && (v % count == i) in
    let rest : ℕ = bound - q * count in
    let whole : bound ≡ q * count + rest = omega arith in
    let within : count_below test (q * count) ≡ count_below (λ v. v % count == i) (q * count) =
    count_same test (λ v. v % count == i) (q * count) (λ v lt. rw (lt-ltb v (q * count) lt) refl) in
    let past : count_below (λ v. test (q * count + v)) rest ≡ 0 =
    count_none (λ v. test (q * count + v)) rest (λ v lt. and_left _ _ (le-ltb (q * count + v) (q * count) (omega arith))) in
    let both = count_add test (q * count) rest in
    let runs = count_runs count i q h in
    rw whole (omega (arith, both, within, past, runs))

-- the test for an accepted number with the answer i
abbrev pub is_answered : ℕ → ℕ → ℕ → Bool
is_answered count i v = is_accepted count v && (v % count == i)

pub count_answered : (count i : ℕ) → i < count → count_below (is_answered count i) (2 ^ 96) ≡ quotient count
count_answered count i h = count_in_runs count i (2 ^ 96 / count) (2 ^ 96) h (div-mul-le_self (2 ^ 96) count)

-- what the test tells
pub answered_tells : (count i v : ℕ) → IsTrue (is_answered count i v) ↔ (IsTrue (is_accepted count v) × (v % count ≡ i))
answered_tells count i v = grind arith

-- each number below the count is the answer of `quotient count` accepted numbers
pub answered_equally : (count i : ℕ) → i < count
    → IsCount (λ v. IsTrue (is_accepted count v) × (v % count ≡ i)) (2 ^ 96) (quotient count)
answered_equally count i h = grind (arith, count_answered count i h)
