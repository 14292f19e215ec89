-- Lists of numbers: counts, sums, rearrangement and the order of a dictionary.
-- These are our own words for common notions.
use Rattle.std.specs.Prelude.{◌≡◌, ℕ, zero, suc, ◌+◌, ◌<◌, List, [], ◌∷◌, ◌⊎◌, map, slice_index, if◌then◌else◌, ◌==◌, nat_lt}

-- the sum of the elements (std's `sum` goes from the left, and so says nothing of a list by its first element)
abbrev pub total : List ℕ → ℕ
total [] = 0
total (x ∷ xs) = x + total xs

-- how many times x stands in a list
abbrev pub occurrences : ℕ → List ℕ → ℕ
occurrences x [] = 0
occurrences x (y ∷ ys) = (if y == x then 1 else 0) + occurrences x ys

-- how many elements of a list are below x
abbrev pub lesser_count : ℕ → List ℕ → ℕ
lesser_count x [] = 0
lesser_count x (y ∷ ys) = (if nat_lt y x then 1 else 0) + lesser_count x ys

-- two lists have the same elements, each as often
abbrev pub IsRearranged : List ℕ → List ℕ → Type 0
IsRearranged xs ys = (x : ℕ) → occurrences x xs ≡ occurrences x ys

-- the n numbers from `start` on, in order
abbrev pub numbers_from : ℕ → ℕ → List ℕ
numbers_from start zero = []
numbers_from start (suc n) = start ∷ numbers_from (suc start) n

-- the list whose place k has what xs has at place ks[k]:
-- xs rearranged by ks, which is the composition where both are permutations
abbrev pub pick : List ℕ → List ℕ → List ℕ
pick xs ks = map (λ k. slice_index xs k) ks

-- the order of a dictionary: at the first place where they differ, the first list has the lower number
-- (of lists of one length)
abbrev pub ComesBefore : List ℕ → List ℕ → Type 0
ComesBefore [] ys = ⊥
ComesBefore (x ∷ xs) [] = ⊥
ComesBefore (x ∷ xs) (y ∷ ys) = (x < y) ⊎ ((x ≡ y) × ComesBefore xs ys)
