-- A part of the solution as its tables see it: three coordinates, each of which has a number of a cube.
use Rattle.std.specs.Prelude.{◌≡◌, ℕ, ◌+◌, ◌*◌, ◌/◌, ◌^◌, ◌<◌, ◌≤◌, ◌==◌, ◌&&◌, All, Bool, true, false, IsTrue, List, [], ◌∷◌, Some, length, slice_index}
use Rattle.scr_positions.specs.Coordinates.{Coordinate, IsGoal}
use Rattle.scr_positions.specs.Products.{product_coordinate}
use Rattle.scr_positions.specs.SearchSpaces.{Follows, positions}
use Rattle.scr_cube.specs.Cube333.{CubeState}
use Rattle.scr_cube.specs.ListedTurns.{cube_space}
use Rattle.scr_table.specs.Lines.{TableLine}
use Rattle.scr_search.specs.declared.position.Extent.{Extent}
use Rattle.scr_search.specs.declared.position.PartPosition.{PartPosition}
use Rattle.scr_search.specs.Orderly.{after_turn, ends_with, is_orderly, leads, may_precede}
use Rattle.scr_search.specs.TurnSets.{contains_turn}

-- a coordinate, and its number of each cube
pub record View : Type 0 where
  pub coordinate : Coordinate
  pub number : CubeState → ℕ

-- The turns of a part, by their numbers; the test of those that may be the last of a word; how many turns stand before
-- the part at most; the cubes that it goes through; the test of those to which its words lead; two coordinates of its
-- own, and that of the edges of the middle layer.
pub record Views : Type 1 where
  pub turns : List ℕ
  pub is_last : ℕ → Bool
  pub before : ℕ
  pub IsSeen : CubeState → Type 0
  pub ends : CubeState → Bool
  pub one : View
  pub other : View
  pub middle : View

-- A whole word of a part: orderly, empty or with a last turn that may be the last, and one that leads to an end.
unfoldable pub is_whole : Views → CubeState → List ℕ → Bool
is_whole v c word = (is_orderly word && ends_with v.is_last word) && leads v.ends c word

-- ---- positions

-- a position shows a cube
pub record Shows (v : Views) (c : CubeState) (at : PartPosition) : Type 0 where
  pub seen : v.IsSeen c
  pub one : at.one ≡ v.one.number c
  pub other : at.other ≡ v.other.number c
  pub middle : at.middle ≡ v.middle.number c

-- the number of a cube among all that a part goes through: those of its own coordinates, in a block for each of the
-- middle layer's
abbrev pub part_number : Views → CubeState → ℕ
part_number v c = (v.one.number c + v.one.coordinate.count * v.other.number c) + 2 ^ 32 * v.middle.number c

-- ---- two coordinates side by side

-- as one, in which the second comes first where the test says so
abbrev pub beside : Bool → Coordinate → Coordinate → Coordinate
beside false c d = product_coordinate c d
beside true c d = product_coordinate d c

-- the position for one of each, of so many
abbrev pub index_beside : Bool → ℕ → ℕ → ℕ → ℕ → ℕ
index_beside false n m i j = i + n * j
index_beside true n m i j = j + m * i

abbrev pub view_beside : Bool → View → View → View
view_beside first own middle = record {
  coordinate = beside first own.coordinate middle.coordinate;
  number = λ c. index_beside first own.coordinate.count middle.coordinate.count (own.number c) (middle.number c);
}

-- The pruning tables of a part: each of its own coordinates beside that of the middle layer.
abbrev pub one_line : Views → Extent → TableLine
one_line v e = record {
  name = e.one_table;
  coordinate = beside e.middle_first v.one.coordinate v.middle.coordinate;
  bound = e.bound;
}

abbrev pub other_line : Views → Extent → TableLine
other_line v e = record {
  name = e.other_table;
  coordinate = beside e.middle_first v.other.coordinate v.middle.coordinate;
  bound = e.bound;
}

-- in the order in which they are built
abbrev pub lines_of : Views → Extent → List TableLine
lines_of v e = one_line v e ∷ other_line v e ∷ []

-- ---- what holds of them

-- A view goes along with the turns of a part, and sees its end.
pub record Sees (v : Views) (view : View) : Type 0 where
  pub turns : view.coordinate.turns ≡ length v.turns
  pub along :
      Follows (cube_space v.IsSeen v.turns (λ c. IsGoal view.coordinate (view.number c)))
      (positions view.coordinate) view.number
  pub ends : (c : CubeState) → v.IsSeen c → IsTrue (v.ends c) → IsGoal view.coordinate (view.number c)

-- Each of these turns leads from a cube to one from which that at the place which stands at its own in a list leads
-- back.
pub record AreTakenBack (turns backs : List ℕ) (IsSeen : CubeState → Type 0) : Type 0 where
  pub below : (place : ℕ) → place < length turns → slice_index backs place < length turns
  pub seen : (c d : CubeState) (place : ℕ) → IsSeen c → place < length turns
      → after_turn c (slice_index turns place) ≡ Some d → IsSeen d
  pub back : (c d : CubeState) (place : ℕ) → IsSeen c → place < length turns
      → after_turn c (slice_index turns place) ≡ Some d
      → after_turn d (slice_index turns (slice_index backs place)) ≡ Some c

-- For each of six faces a set of the turns that may stand right behind one of it, and behind these the set of all
-- turns.
pub record AreBehind (turns sets : List ℕ) : Type 0 where
  pub each : (last place : ℕ) → last < 18 → place < length turns
      → contains_turn (slice_index sets (last / 3)) place ≡ may_precede last (slice_index turns place)
  pub all : (place : ℕ) → place < length turns → IsTrue (contains_turn (slice_index sets 6) place)

-- All views do; they have so many positions, which find room in numbers of 32 bits; there are few turns, with these
-- numbers, and each is taken back by one of them; the sets of those that may stand behind others, and of those that may be the last, are sets of them; and the end has this number.
pub record AreViews (v : Views) (e : Extent) : Type 0 where
  pub one : Sees v v.one
  pub other : Sees v v.other
  pub middle : Sees v v.middle
  pub counts :
      (v.one.coordinate.count ≡ e.ones) × (v.other.coordinate.count ≡ e.others)
      × (v.middle.coordinate.count ≡ e.middles)
  pub block : (0 < e.ones) × (e.ones * e.others < 2 ^ 32) × (e.middles ≤ 2 ^ 16)
  pub slices : (e.ones * e.middles < 2 ^ 32) × (e.others * e.middles < 2 ^ 32)
  pub few : (length v.turns ≤ 18) × (e.bound ≤ 24) × (e.turns ≡ length v.turns)
  pub numbers : (place : ℕ) → place < length v.turns
      → (slice_index e.numbers place ≡ slice_index v.turns place) × (slice_index v.turns place < 18)
  pub taken_back : AreTakenBack v.turns e.backs v.IsSeen
  pub behind : All (λ set. set < 2 ^ length v.turns) e.behind × AreBehind v.turns e.behind
  pub last : (place : ℕ) → place < length v.turns
      → contains_turn e.last.bits place ≡ v.is_last (slice_index v.turns place)
  pub end : (c : CubeState) → v.IsSeen c → v.ends c ≡ (part_number v c == e.end)
