-- How a table's distances are stored: at four bits each, in blocks of 1,024 positions, beside a list of those that
-- don't fit.
use Rattle.std.specs.Prelude.{◌≡◌, ℕ, zero, suc, ◌+◌, ◌*◌, ◌/◌, ◌%◌, ◌<◌, ◌==◌, nat_lt, nat_le, min, if◌then◌else◌, List, [], ◌∷◌, ◌++◌, length, slice_index, slice_index_or}
use Rattle.scr_positions.specs.Moves.{each_below}

-- The half byte of a position stands in block p / 1024, in byte (p % 1024) / 2: the low half where p is even.
abbrev pub half_byte_at : List (List ℕ) → ℕ → ℕ
half_byte_at blocks p =
    let byte = slice_index (slice_index_or blocks (p / 1024) []) (p % 1024 / 2) in
    if p % 2 == 0 then byte % 16 else byte / 16

-- It is the distance up to 13, and 14 where the distance stands in the list of deep positions. Halves past the last
-- position hold 15.
abbrev pub half_byte_of : List ℕ → ℕ → ℕ
half_byte_of distances p = if nat_lt p (length distances) then min 14 (slice_index distances p) else 15

-- the byte of an even position: its half low, and that of the next position high
abbrev pub byte_of : List ℕ → ℕ → ℕ
byte_of distances p = half_byte_of distances p + 16 * half_byte_of distances (p + 1)

-- the block of the positions from this one on
abbrev pub IsBlockFrom : List ℕ → ℕ → List ℕ → Type 0
IsBlockFrom distances start block = (j : ℕ) → j < 512 → slice_index block j ≡ byte_of distances (start + 2 * j)

-- There are just as many blocks as the positions need, with these halves.
pub record AreBlocksOf (distances : List ℕ) (blocks : List (List ℕ)) : Type 0 where
  pub count : length blocks ≡ (length distances + 1023) / 1024
  pub halves : (p : ℕ) → p < 1024 * length blocks → half_byte_at blocks p ≡ half_byte_of distances p

-- A position, and its distance.
abbrev pub Deep : Type 0
Deep = ℕ × ℕ

-- the positions below n whose distance is 14 or more, with their distances, by rising position
unfoldable pub deep_below : List ℕ → ℕ → List Deep
deep_below distances zero = []
deep_below distances (suc n) =
    let distance = slice_index distances n in
    deep_below distances n ++ (if nat_le 14 distance then (n, distance) ∷ [] else [])

abbrev pub deep_of : List ℕ → List Deep
deep_of distances = deep_below distances (length distances)

-- ---- searching the list

abbrev pub deep_at : List Deep → ℕ → Deep
deep_at deep i = slice_index_or deep i (0, 0)

-- entry i is that of this position
abbrev pub StandsAt : List Deep → ℕ → ℕ → Type 0
StandsAt deep i p = (i < length deep) × ((deep_at deep i).0 ≡ p)

abbrev pub IsDeepIn : List Deep → ℕ → Type 0
IsDeepIn deep p = (i : ℕ) × StandsAt deep i p

abbrev pub AreRising : List Deep → Type 0
AreRising deep = (i j : ℕ) → i < j → j < length deep → (deep_at deep i).0 < (deep_at deep j).0

-- ---- the distances that are stored

-- the distance of a position in the list of deep ones
unfoldable pub deep_distance : List Deep → ℕ → ℕ
deep_distance [] p = 0
deep_distance (deep ∷ rest) p = if deep.0 == p then deep.1 else deep_distance rest p

abbrev pub distance_at : List (List ℕ) → List Deep → ℕ → ℕ
distance_at blocks deep p =
    let half = half_byte_at blocks p in
    if half == 14 then deep_distance deep p else half

abbrev pub stored : ℕ → List (List ℕ) → List Deep → List ℕ
stored count blocks deep = each_below (distance_at blocks deep) count

-- Blocks and a list of deep positions are what the distances stored in them ask for.
pub record AreStored (distances : List ℕ) (n : ℕ) (blocks : List (List ℕ)) (deep : List Deep) : Type 0 where
  pub count : length distances ≡ n
  pub in_blocks : AreBlocksOf distances blocks
  pub deep_ones : deep ≡ deep_of distances
