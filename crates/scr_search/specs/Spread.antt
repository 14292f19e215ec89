-- Numbers that are listed block by block, and what one turn more adds to those of a block.
use Rattle.std.specs.Prelude.{◌≡◌, ℕ, ◌/◌, ◌%◌, ◌^◌, ◌<◌, Contains, List, [], Option, Some, None, Result, Ok, Vec, length, slice_index, slice_index_or}
use Rattle.std.specs.declared.alloc.AllocError.{AllocError}
use Rattle.std.specs.declared.alloc.Global.{Global}
use Rattle.scr_cube.specs.Cube333.{CubeState}
use Rattle.scr_search.specs.Orderly.{after_turn}
use Rattle.scr_search.specs.Views.{Views, part_number}

-- The numbers of a block, each told by its place in its block, where they were found.
abbrev pub Listed : Type 0
Listed = Option (Result (Vec ℕ Global) AllocError)

abbrev pub numbers_in : Listed → List ℕ
numbers_in (Some (Ok list)) = list.items
numbers_in _ = []

-- a number is listed
abbrev pub IsListed : List Listed → ℕ → Type 0
IsListed lists number = Contains (numbers_in (slice_index_or lists (number / 2 ^ 32) None)) (number % 2 ^ 32)

-- they were found
abbrev pub IsThere : Listed → Type 0
IsThere (Some (Ok list)) = Unit {0}
IsThere _ = ⊥

-- Of a block of numbers, each told by its place in it, a set has those that are listed, and those of its cubes from
-- which one turn leads to a cube with a listed number.
pub record IsSpread (v : Views) (lists : List Listed) (block : ℕ) (Has : ℕ → Type 0) : Type 0 where
  pub here : (c : CubeState) → v.IsSeen c → part_number v c / 2 ^ 32 ≡ block → IsListed lists (part_number v c)
      → Has (part_number v c % 2 ^ 32)
  pub there : (c d : CubeState) (place : ℕ) → v.IsSeen c → part_number v c / 2 ^ 32 ≡ block → place < length v.turns
      → after_turn c (slice_index v.turns place) ≡ Some d
      → IsListed lists (part_number v d) → Has (part_number v c % 2 ^ 32)
