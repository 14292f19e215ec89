-- Places in pairs, as lists that have at each place the place of its partner, and their numbers.
use Rattle.std.specs.Prelude.{◌≡◌, ℕ, zero, suc, ◌+◌, ◌-◌, ◌*◌, ◌/◌, ◌%◌, ◌<◌, List, [], ◌∷◌, map, length, slice_index, if◌then◌else◌, nat_le}
use Rattle.std.specs.List.{insert, remove}
use Rattle.scr_combinatorics.specs.Permutations.{nth_except}

-- n places in pairs: each place has a partner, which is not the place itself, and whose partner it is
pub record IsPairing (n : ℕ) (xs : List ℕ) : Type 0 where
  pub size : length xs ≡ n
  pub below : (k : ℕ) → k < n → slice_index xs k < n
  pub apart : (k : ℕ) → k < n → slice_index xs k ≡ k → ⊥
  pub both : (k : ℕ) → k < n → slice_index xs (slice_index xs k) ≡ k

-- in how many ways so many pairs can be made of twice as many places: the first place is paired with any of the others,
-- and then the places that are left
abbrev pub pairing_count : ℕ → ℕ
pairing_count zero = 1
pairing_count (suc pairs) = (2 * pairs + 1) * pairing_count pairs

-- place j, from 0, of all places but the first one and its partner x + 1
abbrev pub other_place : ℕ → ℕ → ℕ
other_place x j = suc (nth_except x j)

-- which of these a place is
abbrev pub place_among_others : ℕ → ℕ → ℕ
place_among_others x k = if nat_le k x then k - 1 else k - 2

-- the pairing in which the first place has the partner x + 1, and the others are paired as in `rest`, where they are
-- counted without these two
abbrev pub with_first_pair : ℕ → List ℕ → List ℕ
with_first_pair x rest = suc x ∷ insert (map (other_place x) rest) x 0

-- how the others are paired, counted without the first place and its partner x + 1, where xs are the partners of all
-- but the first place
abbrev pub without_first_pair : ℕ → List ℕ → List ℕ
without_first_pair x xs = map (place_among_others x) (remove xs x)

-- the number of a pairing among all with so many pairs, in dictionary order from 0: for each lower partner of the first
-- place, all pairings of the others come before it
unfoldable pub pairing_number : ℕ → List ℕ → ℕ
pairing_number zero xs = 0
pairing_number (suc pairs) [] = 0
pairing_number (suc pairs) (zero ∷ xs) = 0
pairing_number (suc pairs) (suc x ∷ xs) = x * pairing_count pairs + pairing_number pairs (without_first_pair x xs)

-- the pairing with so many pairs that has number r
unfoldable pub pairing_at : ℕ → ℕ → List ℕ
pairing_at zero r = []
pairing_at (suc pairs) r = with_first_pair (r / pairing_count pairs) (pairing_at pairs (r % pairing_count pairs))
