-- Near sets: sets of numbers that have those of all cubes from which few turns lead to an end, and maybe others.
use Rattle.std.specs.Prelude.{◌≡◌, ℕ, ◌*◌, ◌/◌, ◌%◌, ◌^◌, ◌<◌, ◌≤◌, Bool, Contains, IsTrue, List, length, slice_get, slice_index, Some, ◌∷◌}
use Rattle.std.specs.Int.{bit_at}
use Rattle.scr_cube.specs.Cube333.{CubeState}
use Rattle.scr_combinatorics.specs.Words.{words_of}
use Rattle.scr_search.specs.declared.near_set.NearBlock.{NearBlock}
use Rattle.scr_search.specs.declared.near_set.NearSet.{NearSet}
use Rattle.scr_search.specs.TurnSets.{contains_turn}
use Rattle.scr_search.specs.Orderly.{leads}
use Rattle.scr_search.specs.Views.{Views, part_number}

-- ---- sets of numbers

-- A set has the number of each cube from which a word of at most so many turns leads to an end of a part.
pub record IsNear (v : Views) (most : ℕ) (Has : ℕ → Type 0) : Type 0 where
  pub near : (c : CubeState) (n : ℕ) (w : List ℕ) → v.IsSeen c → n ≤ most → Contains (words_of v.turns n) w
      → IsTrue (leads v.ends c w) → Has (part_number v c)

-- ---- what a near set leaves

-- Of a set of turns those are left with which some word of so many turns behind them leads to a cube that passes a
-- test.
pub record LeavesNear (turns : List ℕ) (test : CubeState → Bool) (c : CubeState) (more before after : ℕ) : Type 0 where
  pub among : (place : ℕ) → IsTrue (contains_turn after place) → IsTrue (contains_turn before place)
  pub left : (place : ℕ) (v : List ℕ) → place < length turns → Contains (words_of turns more) v
      → IsTrue (leads test c (slice_index turns place ∷ v)) → IsTrue (contains_turn before place)
      → IsTrue (contains_turn after place)

-- ---- bits

-- The word of a number of a block, of 4,096, and its two bits in it: by the number, well mixed.
unfoldable pub mixed : ℕ → ℕ
mixed number = number * 2654435761 % 2 ^ 32

unfoldable pub word_of : ℕ → ℕ
word_of number = mixed number / 2 ^ 20

unfoldable pub first_bit : ℕ → ℕ
first_bit number = mixed number / 2 ^ 14 % 64

unfoldable pub second_bit : ℕ → ℕ
second_bit number = mixed number / 2 ^ 8 % 64

-- a number of a block has both of its bits
pub record HasBits (words : List ℕ) (number : ℕ) : Type 0 where
  pub first : bit_at (slice_index words (word_of number)) (first_bit number) ≡ 1
  pub second : bit_at (slice_index words (word_of number)) (second_bit number) ≡ 1

-- A near set has a number, both of whose bits are set in its block, or whose block lies behind the set.
pub record IsInSet (set : NearSet) (number : ℕ) : Type 0 where
  pub bits : (block : NearBlock) → slice_get set.blocks.items (number / 2 ^ 32) ≡ Some block
      → HasBits block.words (number % 2 ^ 32)
