-- All words of some letters, in the order of words: by length, then by the letters, from the first on, in the order in
-- which these are given.
use Rattle.std.specs.Prelude.{ℕ, zero, suc, ◌+◌, Bool, List, [], ◌∷◌, ◌++◌, map, filter}
use Rattle.std.specs.List.{flat_map}
use Rattle.scr_combinatorics.specs.Lists.{numbers_from}

-- all words of n letters: for each letter, those of n - 1 letters behind it
unfoldable pub words_of : List ℕ → ℕ → List (List ℕ)
words_of letters zero = [] ∷ []
words_of letters (suc n) = flat_map (λ t. map (λ w. t ∷ w) (words_of letters n)) letters

-- all words of at most so many letters
unfoldable pub words_within : List ℕ → ℕ → List (List ℕ)
words_within letters most = flat_map (words_of letters) (numbers_from 0 (most + 1))

-- of the words that go on from one by so many letters, those that pass a test
unfoldable pub words_behind : List ℕ → (List ℕ → Bool) → List ℕ → ℕ → List (List ℕ)
words_behind letters test word more = filter test (map (λ v. word ++ v) (words_of letters more))
