-- Permutations of the numbers below n: parity, inverses, and their numbers.
use Rattle.std.specs.Prelude.{◌≡◌, ℕ, zero, suc, ◌+◌, ◌*◌, ◌/◌, ◌%◌, ◌<◌, Bool, true, List, [], ◌∷◌, ◌&&◌, map, length, if◌then◌else◌, ◌==◌, nat_lt}
use Rattle.scr_combinatorics.specs.Lists.{occurrences, lesser_count, numbers_from}

-- a list of n numbers that has each number below n exactly once
pub record IsPermutation (n : ℕ) (xs : List ℕ) : Type 0 where
  pub size : length xs ≡ n
  pub once : (k : ℕ) → k < n → occurrences k xs ≡ 1

-- each number below n stands exactly once in xs, as a test
abbrev pub has_each_once : ℕ → List ℕ → Bool
has_each_once zero xs = true
has_each_once (suc k) xs = (occurrences k xs == 1) && has_each_once k xs

-- `IsPermutation` as a test
abbrev pub is_permutation : ℕ → List ℕ → Bool
is_permutation n xs = (length xs == n) && has_each_once n xs

-- how many pairs of places stand in falling order
abbrev pub inversions : List ℕ → ℕ
inversions [] = 0
inversions (x ∷ xs) = lesser_count x xs + inversions xs

-- 0 for an even list and 1 for an odd one
abbrev pub parity : List ℕ → ℕ
parity xs = inversions xs % 2

abbrev pub IsEven : List ℕ → Type 0
IsEven xs = parity xs ≡ 0

-- the place of the first x in a list, or the length where there is none
abbrev pub place_of : ℕ → List ℕ → ℕ
place_of x [] = 0
place_of x (y ∷ ys) = if y == x then 0 else suc (place_of x ys)

-- the inverse of a permutation: place v has the place of v
abbrev pub inverse : List ℕ → List ℕ
inverse xs = map (λ v. place_of v xs) (numbers_from 0 (length xs))

-- ---- the number of a permutation

-- n!, how many permutations of n numbers there are
abbrev pub factorial : ℕ → ℕ
factorial zero = 1
factorial (suc n) = suc n * factorial n

-- the number of a permutation among all permutations of its elements, in dictionary order from 0:
-- for each lower first element, all permutations of the rest come before it (its Lehmer code, read as one number)
abbrev pub permutation_number : List ℕ → ℕ
permutation_number [] = 0
permutation_number (x ∷ xs) = lesser_count x xs * factorial (length xs) + permutation_number xs

-- number x, from 0, of all numbers but d
abbrev pub nth_except : ℕ → ℕ → ℕ
nth_except d x = if nat_lt x d then x else suc x

-- the permutation of n numbers that has number r: its first number, and the others in the order of those that are left
unfoldable pub permutation_at : ℕ → ℕ → List ℕ
permutation_at zero r = []
permutation_at (suc n) r = r / factorial n ∷ map (nth_except (r / factorial n)) (permutation_at n (r % factorial n))

-- of the two permutations numbered 2 * half and 2 * half + 1 the one that has this parity, 0 or 1
unfoldable pub half_at : ℕ → ℕ → ℕ → List ℕ
half_at n odd half =
    if parity (permutation_at n (2 * half)) == odd then permutation_at n (2 * half) else permutation_at n (2 * half + 1)
