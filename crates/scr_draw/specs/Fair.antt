-- What makes drawing fair: every permitted state is hit by equally many numbers, and drawn by equally
-- many lists of numbers, whatever their length.
use Rattle.std.specs.Prelude.{ℕ, zero, suc, ◌≡◌, ◌+◌, ◌*◌, ◌%◌, ◌<◌, ◌≤◌, ◌^◌, IsTrue, Option, Some, None, replicate}
use Rattle.scr_draw.specs.Attempt.{is_accepted, quotient}
use Rattle.scr_draw.specs.Count.{IsCount}
use Rattle.scr_draw.specs.Drawn.{drawn}
use Rattle.scr_combinatorics.specs.Digits.{mixed_digits}

-- How many lists of `len` numbers below a radix draw a state that `hits` numbers hit, where `misses`
-- numbers miss. The first number of such a list hits the state, and then the others are free, or it
-- misses, and then the others draw the state.
unfoldable pub ways : ℕ → ℕ → ℕ → ℕ → ℕ
ways radix hits misses zero = 0
ways radix hits misses (suc len) = hits * radix ^ len + misses * ways radix hits misses len

-- Fair drawing by attempts on a count of numbered states, where `hits` says which state each number
-- below 2 ^ 96 hits.
pub record IsFair {S : Type 0} (count : ℕ) (state_at : ℕ → S) (hits : ℕ → Option S) (IsPermitted : S → Type 0) : Type 0 where
  -- there are numbers to accept
  pub some : 1 ≤ quotient count
  -- for each permitted state, `quotient count` numbers are accepted with that state
  pub equally : (s : S) → IsPermitted s
      → IsCount (λ v. IsTrue (is_accepted count v) × (state_at (v % count) ≡ s)) (2 ^ 96) (quotient count)
  -- as many hit it
  pub hit_equally : (s : S) → IsPermitted s → IsCount (λ v. hits v ≡ Some s) (2 ^ 96) (quotient count)
  -- no number hits a state that isn't permitted
  pub permitted : (v : ℕ) (s : S) → v < 2 ^ 96 → hits v ≡ Some s → IsPermitted s
  -- the numbers that hit nothing
  pub misses : ℕ
  pub missed : IsCount (λ v. hits v ≡ None) (2 ^ 96) misses
  -- each permitted state is drawn by the same number of lists of each length: the lists of `len` numbers below 2 ^ 96
  -- are those of the digits in that base of the numbers below (2 ^ 96) ^ len
  pub same_ways : (len : ℕ) (s : S) → IsPermitted s
      → IsCount (λ n. drawn hits (mixed_digits (replicate len (2 ^ 96)) n) ≡ Some s) ((2 ^ 96) ^ len) (ways (2 ^ 96) (quotient count) misses len)
