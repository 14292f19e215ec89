-- What a search for a part of a solution goes by.
use Rattle.std.specs.Prelude.{◌≡◌, ℕ, ◌-◌, ◌<◌, Contains, Bool, false, IsTrue, if◌then◌else◌, List, ◌∷◌, ◌++◌, length, take, slice_get, slice_index, Option, Some, None}
use Rattle.std.specs.List.{filter_map}
use Rattle.scr_combinatorics.specs.Play.{play}
use Rattle.scr_cube.specs.Cube333.{CubeState}
use Rattle.scr_combinatorics.specs.Words.{words_of}
use Rattle.scr_search.specs.declared.position.PartPosition.{PartPosition}
use Rattle.scr_search.specs.Orderly.{may_end, is_orderly, after_turn}
use Rattle.scr_search.specs.TurnSets.{contains_turn}
use Rattle.scr_search.specs.Views.{Shows, Views, is_whole}

-- ---- words

-- An orderly word leads from a cube to one that a position shows.
pub record IsAt (v : Views) (c : CubeState) (word : List ℕ) (at : PartPosition) : Type 0 where
  pub there : CubeState
  pub played : play after_turn c word ≡ Some there
  pub shows : Shows v there at
  pub orderly : IsTrue (is_orderly word)

-- An orderly word leads from a cube to one at the end of a part.
pub record IsAtEnd (v : Views) (c : CubeState) (word : List ℕ) : Type 0 where
  pub there : CubeState
  pub played : play after_turn c word ≡ Some there
  pub seen : v.IsSeen there
  pub ends : IsTrue (v.ends there)
  pub orderly : IsTrue (is_orderly word)

-- ---- turns, told by their places

-- a turn of a part that may stand right behind a word
pub record MayFollow (v : Views) (word : List ℕ) (place : ℕ) : Type 0 where
  pub below : place < length v.turns
  pub orderly : IsTrue (may_end word (slice_index v.turns place))

-- A set has each turn with which some word of a part goes on from a word by so many turns. All its turns may stand right
-- behind the word.
pub record KeepsWays (v : Views) (c : CubeState) (word : List ℕ) (left bits : ℕ) : Type 0 where
  pub kept : (place : ℕ) (w : List ℕ) → place < length v.turns → Contains (words_of v.turns (left - 1)) w
      → IsTrue (is_whole v c (word ++ slice_index v.turns place ∷ w)) → IsTrue (contains_turn bits place)
  pub follow : (place : ℕ) → IsTrue (contains_turn bits place) → MayFollow v word place

-- ---- what a search comes to

-- What the first of some words gives that gives anything. So many of them are tried.
unfoldable pub first_given : (List ℕ → Option (List ℕ)) → ℕ → List (List ℕ) → Option (List ℕ)
first_given gives tries words = slice_get (filter_map gives (take tries words)) 0

-- A search through words, each of which counts one try, makes of a word what the first gives that gives anything. Where
-- none does, the word stays, and a try is counted for each.
pub record IsSearched (gives : List ℕ → Option (List ℕ)) (words : List (List ℕ)) (tries : ℕ) (before : List ℕ)
    (found : Bool) (after : List ℕ) (left : ℕ) : Type 0 where
  pub given : first_given gives tries words ≡ (if found then Some after else None)
  pub same : found ≡ false → after ≡ before
  pub tried : found ≡ false → left ≡ tries - length words
