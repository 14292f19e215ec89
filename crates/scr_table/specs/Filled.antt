-- What is so of the entries of a table while it is built. One number stands for 'not known yet'.
use Rattle.std.specs.Prelude.{◌≡◌, ◌≢◌, ℕ, ◌+◌, ◌*◌, ◌/◌, ◌%◌, ◌<◌, ◌≤◌, ◌↔◌, ◌==◌, ◌&&◌, if◌then◌else◌, Bool, true, false, List, length, slice_index, slice_index_or, Option, Some, None}
use Rattle.scr_positions.specs.Coordinates.{Coordinate, moved, IsGoal}
use Rattle.scr_combinatorics.specs.FirstWord.{IsDistance}
use Rattle.scr_table.specs.Distances.{NoneWithin}
use Rattle.scr_table.specs.declared.fill.TheConstants.{UNKNOWN}

-- What an entry says of its position, when all words of at most `level` turns are looked at: the distance, or that
-- there is no such word.
pub record IsKnown (c : Coordinate) (level p entry : ℕ) : Type 0 where
  pub found : entry ≢ UNKNOWN → IsDistance (moved c) (IsGoal c) p entry
  pub left : entry ≡ UNKNOWN → NoneWithin c p level

pub record AreKnown (c : Coordinate) (level : ℕ) (entries : List ℕ) : Type 0 where
  pub positions : length entries ≡ c.count
  pub each : (p : ℕ) → p < c.count → IsKnown c level p (slice_index entries p)

-- 0 stands exactly at the goals.
pub record AreMarked (c : Coordinate) (entries : List ℕ) : Type 0 where
  pub positions : length entries ≡ c.count
  pub goals : (p : ℕ) → p < c.count → (slice_index entries p ≡ 0) ↔ IsGoal c p

-- A turn leads from this position to one with this entry.
abbrev pub Neighbours : Coordinate → List ℕ → ℕ → ℕ → Type 0
Neighbours c entries p entry = (t q : ℕ) × (moved c p t ≡ Some q) × (slice_index entries q ≡ entry)

-- The least entry that a turn leads to from a position, and the mark where each turn is barred.
pub record IsLeastNeighbour (c : Coordinate) (entries : List ℕ) (p least : ℕ) : Type 0 where
  pub at_most : (t q : ℕ) → moved c p t ≡ Some q → least ≤ slice_index entries q
  pub some : least ≢ UNKNOWN → Neighbours c entries p least

-- An entry agrees with the least that turns lead to, where the entries up to a level are there: a distance other than 0
-- is greater by one, and beside what isn't known yet nothing is below the level.
pub record Agrees (level entry least : ℕ) : Type 0 where
  pub known : entry ≢ UNKNOWN → entry ≢ 0 → (entry ≡ least + 1) × (entry ≤ level)
  pub unknown : entry ≡ UNKNOWN → level ≤ least

abbrev pub IsAgreed : Coordinate → ℕ → List ℕ → ℕ → Type 0
IsAgreed c level entries p = (least : ℕ) × IsLeastNeighbour c entries p least × Agrees level (slice_index entries p) least

-- The entry of a position on the next level: what is known is kept, and what isn't is reached where a turn leads to the
-- level.
abbrev pub next_entry : ℕ → ℕ → ℕ → ℕ
next_entry level entry least = if entry == UNKNOWN && least == level then level + 1 else entry

pub record IsNextEntry (c : Coordinate) (level : ℕ) (entries : List ℕ) (p next : ℕ) : Type 0 where
  pub kept : slice_index entries p ≢ UNKNOWN → next ≡ slice_index entries p
  pub reached : slice_index entries p ≡ UNKNOWN
      → (least : ℕ) × IsLeastNeighbour c entries p least × (next ≡ next_entry level UNKNOWN least)

-- ---- blocks of 1,024 positions

-- how many there are
abbrev pub block_count : ℕ → ℕ
block_count positions = (positions + 1023) / 1024

-- what is so of each position of a block, which is one of so many positions, and of its place in the block
abbrev pub OfBlock : (ℕ → ℕ → Type 0) → ℕ → ℕ → Type 0
OfBlock P positions block = (k : ℕ) → k < 1024 → 1024 * block + k < positions → P (1024 * block + k) k

-- The entries of a block on the next level, or none where all of the block are known.
abbrev pub IsNextBlock : Coordinate → ℕ → List ℕ → ℕ → Option (List ℕ) → Type 0
IsNextBlock c level entries block (Some next) = OfBlock (λ p k. IsNextEntry c level entries p (slice_index next k)) (length entries) block
IsNextBlock c level entries block None = OfBlock (λ p _. slice_index entries p ≢ UNKNOWN) (length entries) block

-- The entries of a block on the next level where all of the block agree, or none.
abbrev pub IsCheckedBlock : Coordinate → ℕ → List ℕ → ℕ → Option (List ℕ) → Type 0
IsCheckedBlock c level entries block (Some next) =
    OfBlock (λ p k. IsAgreed c level entries p × IsNextEntry c level entries p (slice_index next k)) (length entries) block
IsCheckedBlock c level entries block None = Unit {0}

-- which of the two it is, by whether the entries are checked
abbrev pub IsBlockBehind : Bool → Coordinate → ℕ → List ℕ → ℕ → Option (List ℕ) → Type 0
IsBlockBehind true = IsCheckedBlock
IsBlockBehind false = IsNextBlock

-- a block is there
abbrev pub IsThere : Option (Option (List ℕ)) → Type 0
IsThere (Some (Some next)) = Unit {0}
IsThere _ = ⊥

-- the entry of a position after the blocks that there are were entered
abbrev pub entered_at : Option (Option (List ℕ)) → ℕ → ℕ → ℕ
entered_at (Some (Some next)) k entry = slice_index next k
entered_at _ k entry = entry

abbrev pub entered : List (Option (Option (List ℕ))) → List ℕ → ℕ → ℕ
entered blocks entries p = entered_at (slice_index_or blocks (p / 1024) None) (p % 1024) (slice_index entries p)
