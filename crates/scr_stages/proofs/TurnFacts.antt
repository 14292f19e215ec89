-- The turns of the stages: what each does, and what it keeps.
use Rattle.std.proofs.Common.{◌≡◌, ℕ, ◌<◌, true, List, [], ◌∷◌, Option, Some, None, map, refl, sym, ap, ◌∙◌, arith, ltb-true}
use Rattle.std.specs.Prelude.{All, nat_lt, slice_get, slice_index_or, option_and_then}
use Rattle.std.specs.Option.{option_map}
use Rattle.std.specs.List.{list_all}
use Rattle.std.proofs.lemmas.List.Elements.{All-map}
use Rattle.std.proofs.lemmas.Option.{slice_get-map, slice_get-get_or}
use Rattle.scr_combinatorics.specs.Permutations.{IsPermutation}
use Rattle.scr_orbit.specs.Monoids.{power, all_powers}
use Rattle.scr_orbit.specs.Orbits.{Orbit, turned_orbit, solved_orbit, added_digits, zeros}
use Rattle.scr_orbit.specs.PowerPuzzles.{after_letter, all_turns}
use Rattle.scr_orbit.proofs.PowerLaws.{All-got}
use Rattle.scr_notation.specs.TurnNumbers.{face_turn_at}
use Rattle.scr_cube.specs.Cube333.{CubeState, IsCube, cube_monoid, cube_powers, solved_cube}
use Rattle.scr_cube.proofs.Laws333.{lawful_cube}
use Rattle.scr_cube.proofs.ListedTurns.{length-turns, turn-leads, after_of-is}
use Rattle.scr_orbit.proofs.TableTests.{All-from_test}
use Rattle.scr_stages.proofs.FiniteTests.{at_element}
use Rattle.scr_stages.specs.Stages.{half_turns, slice_turns, domino_turns}
use Rattle.scr_cube.specs.ListedTurns.{after_of, turn_numbers}
use Rattle.scr_stages.specs.Numbers.{tetrads_number, IsUnflippedCube, IsDominoCube, IsHalfCube}
use Rattle.scr_stages.specs.Tables.{turns_of, edges_by, block_turn}
use Rattle.scr_stages.specs.Tetrads.{in_block, shared_axis, axes_of, relation_number, relation_of, corner_index}

-- ---- the turn at a place of a list

pub after_of-turns : (numbers : List ℕ) → All (λ t. t < 18) numbers → (c : CubeState) (place : ℕ)
    → after_of numbers c place ≡ option_map (cube_monoid.turned c) (slice_get (turns_of numbers) place)
after_of-turns numbers below c place =
    after_of-is numbers c place
    ∙ by (slice_get numbers place) (λ t e. All-got (λ t. t < 18) numbers place t below e)
    ∙ ap (option_map (cube_monoid.turned c)) (sym (slice_get-map (λ t. slice_index_or (all_turns cube_powers) t solved_cube) numbers place))
  where
    by : (o : Option ℕ) → ((t : ℕ) → o ≡ Some t → t < 18)
        → option_and_then (λ t. (after_letter cube_powers) c (face_turn_at t)) o
        ≡ option_map (cube_monoid.turned c) (option_map (λ t. slice_index_or (all_turns cube_powers) t solved_cube) o)
    by None h = refl
    by (Some t) h = turn-leads c t (h t refl)

-- ---- lists of turns

cube_turns : All IsCube (all_turns cube_powers)
cube_turns k d lt =
    lawful_cube.lawful.turns (face_turn_at k) _ (sym (lawful_cube.numbered k) ∙ slice_get-get_or (all_turns cube_powers) k d lt)

pub All-turns : (numbers : List ℕ) → All (λ t. t < 18) numbers → All IsCube (turns_of numbers)
All-turns numbers below =
    All-map IsCube (λ t. slice_index_or (all_turns cube_powers) t solved_cube) numbers
    (λ k d lt. cube_turns (slice_index_or numbers k d) solved_cube (omega (arith, length-turns, below k d lt)))

pub All-numbers : (numbers : List ℕ) → list_all (λ t. nat_lt t 18) numbers ≡ true → All (λ t. t < 18) numbers
All-numbers numbers = All-from_test (λ t. nat_lt t 18) (λ t. t < 18) (λ t. ltb-true t 18) numbers

pub flips_numbers : All (λ t. t < 18) turn_numbers
flips_numbers = All-numbers turn_numbers refl

pub slice_numbers : All (λ t. t < 18) slice_turns
slice_numbers = All-numbers slice_turns refl

pub tetrads_numbers : All (λ t. t < 18) domino_turns
tetrads_numbers = All-numbers domino_turns refl

pub slice_each : All IsUnflippedCube (turns_of slice_turns)
unfolding all_turns all_powers power turned_orbit solved_cube solved_orbit added_digits
slice_each k d lt = record {
  cube = All-turns slice_turns slice_numbers k d lt;
  no_flips = at_element (λ r. r.edges.digits) (λ r. zeros 12) (turns_of slice_turns) refl k d lt;
}

pub tetrads_each : All IsDominoCube (turns_of domino_turns)
unfolding all_turns all_powers power turned_orbit solved_cube solved_orbit added_digits
tetrads_each k d lt = grind (arith, All-turns domino_turns tetrads_numbers k d lt, at_element)

-- half turns stand at these places among the turns of a domino
halves_among : All IsDominoCube (turns_of half_turns)
halves_among =
    let places = 1 ∷ 3 ∷ 4 ∷ 6 ∷ 8 ∷ 9 ∷ [] in
    let below = All-from_test (λ j. nat_lt j 10) (λ j. j < 10) (λ j. ltb-true j 10) places refl in
    All-map IsDominoCube (λ j. slice_index_or (turns_of domino_turns) j solved_cube) places
    (λ k d lt. tetrads_each (slice_index_or places k d) solved_cube (below k d lt))

pub halves_turns : All IsHalfCube (turns_of half_turns)
unfolding all_turns all_powers power turned_orbit solved_cube solved_orbit added_digits corner_index relation_of relation_number axes_of shared_axis
halves_turns k d lt =
    record { domino = halves_among k d lt; index = at_element tetrads_number (λ r. tetrads_number solved_cube) (turns_of half_turns) refl k d lt }

-- turns that carry the edges of a block among its places
pub All-block_turns : {IsTurn : CubeState → Type 0} (numbers : List ℕ) → All IsTurn (turns_of numbers) → (n : ℕ) (block : List ℕ)
    → ((r : CubeState) → IsTurn r → IsPermutation n (in_block block r.edges.pieces))
    → All (λ r. IsPermutation n r.pieces) (map (block_turn block) (edges_by numbers))
All-block_turns numbers each n block order =
    let IsMove : Orbit → Type 0 = λ r. IsPermutation n r.pieces in
    All-map IsMove (block_turn block) (edges_by numbers)
    (All-map (λ r. IsMove (block_turn block r)) (λ r. r.edges) (turns_of numbers) (λ k d lt. order _ (each k d lt)))
