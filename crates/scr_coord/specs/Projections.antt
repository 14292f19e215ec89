-- Projections: coordinates that see one list of a state's orbit, by its number.
use Rattle.std.specs.Prelude.{ℕ, suc, ◌-◌, ◌^◌, ◌≤◌, Bool, List, [], ◌∷◌, All, length, ◌==◌, if◌then◌else◌, slice_get}
use Rattle.std.specs.Option.{option_map}
use Rattle.std.specs.List.{list_any}
use Rattle.scr_combinatorics.specs.Lists.{numbers_from, pick}
use Rattle.scr_combinatorics.specs.Permutations.{factorial, permutation_number, permutation_at}
use Rattle.scr_combinatorics.specs.PlaceSets.{binomial, place_set_number, place_set_at}
use Rattle.scr_combinatorics.specs.Twists.{twists_number, twists_at}
use Rattle.scr_orbit.specs.Orbits.{Orbit, added_digits, turned_orbit, zeros}
use Rattle.scr_positions.specs.Coordinates.{Coordinate}
use Rattle.scr_positions.specs.SearchSpaces.{SearchSpace}

-- Lists of one kind: how many there are and how they are numbered, what a turn makes of one, and which is the goal.
pub record ListView : Type 0 where
  pub count : ℕ
  pub list_at : ℕ → List ℕ
  pub number_of : List ℕ → ℕ
  pub turned : List ℕ → Orbit → List ℕ
  pub goal : List ℕ

-- The coordinate that sees a list by its number: a turn leads to the number of the turned list of the list with this
-- number.
abbrev pub projection : ListView → List Orbit → Coordinate
projection v turns = record {
  count = v.count;
  turns = length turns;
  after = λ p t. option_map (λ r. v.number_of (v.turned (v.list_at p) r)) (slice_get turns t);
  is_goal = λ p. p == v.number_of v.goal;
}

-- ---- the three kinds, over n places

-- Digits below a base whose sum is 0, as twists and flips: each place gets the digit of the place that its piece comes
-- from, and what the turn adds. The goal is that all are 0.
abbrev pub twists_view : ℕ → ℕ → ListView
twists_view n base = record {
  count = base ^ (n - 1);
  list_at = twists_at n base;
  number_of = twists_number base;
  turned = λ digits turn. added_digits base (pick digits turn.pieces) turn.digits;
  goal = zeros n;
}

-- The places, from `low` on, at which marked pieces stand, in increasing order.
abbrev pub marked_from : (ℕ → Bool) → ℕ → List ℕ → List ℕ
marked_from marked low [] = []
marked_from marked low (x ∷ xs) =
    if marked x then low ∷ marked_from marked (suc low) xs else marked_from marked (suc low) xs

abbrev pub marked_places : (ℕ → Bool) → List ℕ → List ℕ
marked_places marked pieces = marked_from marked 0 pieces

-- whether a number stands in a list
abbrev pub stands_in : List ℕ → ℕ → Bool
stands_in xs x = list_any (λ y. y == x) xs

-- The places at which the pieces of a set of places stand after a turn: those that get their piece from a place of the
-- set.
abbrev pub turned_set : List ℕ → Orbit → List ℕ
turned_set set turn = marked_places (stands_in set) turn.pieces

-- The set of the k places at which marked pieces stand; the goal is the set `home`.
abbrev pub place_set_view : ℕ → ℕ → List ℕ → ListView
place_set_view n k home = record {
  count = binomial n k;
  list_at = place_set_at n k;
  number_of = place_set_number n;
  turned = turned_set;
  goal = home;
}

-- The list of pieces; the goal is the list in order.
abbrev pub pieces_view : ℕ → ListView
pieces_view n = record {
  count = factorial n;
  list_at = permutation_at n;
  number_of = permutation_number;
  turned = λ pieces turn. pick pieces turn.pieces;
  goal = numbers_from 0 n;
}

-- ---- what they are projections of

-- An orbit as a search sees it: the turn of a number turns it by the one at that place.
abbrev pub orbit_space : ℕ → List Orbit → (Orbit → Type 0) → (Orbit → Type 0) → SearchSpace Orbit
orbit_space modulus turns IsValid IsGoal = record {
  IsValid = IsValid;
  after = λ o t. option_map (turned_orbit modulus o) (slice_get turns t);
  IsGoal = IsGoal;
}

-- ---- what is asked of the turns

-- There are 1 to 256 turns, and each is one that is asked for.
pub record AreTurns {T : Type 0} (IsTurn : T → Type 0) (turns : List T) : Type 0 where
  pub some : 1 ≤ length turns
  pub few : length turns ≤ 256
  pub each : All IsTurn turns
