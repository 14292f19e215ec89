-- The states near solved, each with the least number of turns to solved, its level.
use Rattle.std.specs.Prelude.{◌≡◌, ℕ, ◌+◌, ◌*◌, ◌<◌, ◌≤◌, ◌↔◌, nat_le, Bool, true, IsTrue, if◌then◌else◌, List, [], ◌∷◌, length, slice_index_or, Option, Some, None}
use Rattle.scr_combinatorics.specs.Reach.{Needs}
use Rattle.scr_notation.specs.TurnNumbers.{layer_turn_at}
use Rattle.scr_sq1.specs.Units.{Sq1State, IsSq1, solved_sq1, sq1_after, sq1_puzzle}
use Rattle.scr_sq1far.specs.Within.{IsWithin}

-- units as the digits of a number in base 16, the first the least
unfoldable pub units_key : List ℕ → ℕ
units_key [] = 0
units_key (u ∷ us) = u + 16 * units_key us

-- the number of a state, by which it is looked up: the equator is its last bit
unfoldable pub key_of : Sq1State → ℕ
key_of s = 2 * units_key s.units + (if s.equator then 1 else 0)

-- The key has a level, which is at most this.
abbrev pub HasLevel : ℕ → (ℕ → Option ℕ) → ℕ → Type 0
HasLevel most level_of key = (level : ℕ) × (level ≤ most) × (level_of key ≡ Some level)

-- a level is at least so much; what has none is further away than those that have
abbrev pub is_at_least : ℕ → Option ℕ → Bool
is_at_least least None = true
is_at_least least (Some level) = nat_le least level

-- The levels tell of each state, up to so many turns, whether it needs them. So a level is the least number of turns to
-- solved.
abbrev pub TellNeeds : ℕ → (ℕ → Option ℕ) → Type 0
TellNeeds greatest level_of = (s : Sq1State) (least : ℕ) → IsSq1 s → least ≤ greatest
    → IsTrue (is_at_least least (level_of (key_of s))) ↔ Needs sq1_puzzle s least

-- ---- while they are found

-- Each state from which so many turns lead to solved, or fewer, has a level, which is at most their number.
abbrev pub AreTold : ℕ → (ℕ → Option ℕ) → Type 0
AreTold reach level_of = (s : Sq1State) (most : ℕ) → IsSq1 s → most ≤ reach → IsWithin sq1_puzzle s most
    → HasLevel most level_of (key_of s)

-- A state's level is a number of turns that lead from it to solved, and up to `reach` turns the least.
pub record AreLevels (reach : ℕ) (level_of : ℕ → Option ℕ) : Type 0 where
  pub sound : (s : Sq1State) (level : ℕ) → IsSq1 s → level_of (key_of s) ≡ Some level → IsWithin sq1_puzzle s level
  pub least : AreTold reach level_of

-- A key with this level is that of one of the states that are listed, from which so many turns lead to solved.
pub record IsListed (most key level : ℕ) (states : List Sq1State) : Type 0 where
  pub place : ℕ
  pub inside : place < length states
  pub valid : IsSq1 (slice_index_or states place solved_sq1)
  pub is : key_of (slice_index_or states place solved_sq1) ≡ key
  pub within : IsWithin sq1_puzzle (slice_index_or states place solved_sq1) level
  pub low : level ≤ most

-- Each key that has a level is of a listed state, and from each of these at most so many turns lead to solved.
pub record AreListed (most : ℕ) (level_of : ℕ → Option ℕ) (states : List Sq1State) : Type 0 where
  pub keys : (key level : ℕ) → level_of key ≡ Some level → IsListed most key level states
  pub near : (k : ℕ) → k < length states → IsWithin sq1_puzzle (slice_index_or states k solved_sq1) most

-- More keys may have levels, and more states are listed behind those that were.
pub record Grows (level_of : ℕ → Option ℕ) (states : List Sq1State) (more_of : ℕ → Option ℕ) (more : List Sq1State) : Type 0 where
  pub kept : (key level : ℕ) → level_of key ≡ Some level → more_of key ≡ Some level
  pub longer : length states ≤ length more
  pub same : (k : ℕ) → k < length states → slice_index_or more k solved_sq1 ≡ slice_index_or states k solved_sq1

-- Where the first of the turns, as far as this number, lead from a state, keys have levels that are at most this.
abbrev pub AreTurnsListed : ℕ → (ℕ → Option ℕ) → Sq1State → ℕ → Type 0
AreTurnsListed most level_of s turns = (turn : ℕ) (r : Sq1State) → turn < turns
    → sq1_after s (layer_turn_at turn) ≡ Some r → HasLevel most level_of (key_of r)
