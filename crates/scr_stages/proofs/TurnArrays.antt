-- Turns in arrays: what they are is told by what they make of the solved orbit.
use Rattle.std.proofs.Common.{◌≡◌, ℕ, ◌<◌, ◌≤◌, List, [], map, length, get_or, refl, sym, ap, ◌∙◌, subst, arith}
use Rattle.std.specs.Prelude.{All, slice_index_or}
use Rattle.std.proofs.lemmas.List.{length-map, get_or-map}
use Rattle.std.proofs.lemmas.List.Elements.{All-map}
use Rattle.std.proofs.lemmas.Simd.{map-map}
use Rattle.scr_combinatorics.specs.Lists.{numbers_from}
use Rattle.scr_orbit.specs.Monoids.{all_powers, power}
use Rattle.scr_orbit.specs.Orbits.{IsZeroSumOrbit, Orbit, added_digits, turned_orbit, solved_orbit}
use Rattle.scr_orbit.specs.declared.placed.PlaceTurn.{PlaceTurn}
use Rattle.scr_orbit.specs.PlaceTurns.{made_by}
use Rattle.scr_orbit.specs.PowerPuzzles.{all_turns}
use Rattle.scr_coord.specs.Projections.{AreTurns}
use Rattle.scr_coord.proofs.ProjectionLaws.{AreTurns-places}
use Rattle.scr_cube.specs.Cube333.{CubeState, IsCube, cube_powers, solved_cube}
use Rattle.scr_cube.proofs.ListedTurns.{length-turns}
use Rattle.scr_stages.specs.Tables.{block_turn, block_turns, turns_of}
use Rattle.scr_stages.specs.Turned.{AreTurned}
use Rattle.scr_stages.proofs.FiniteTests.{at_element, map-same}
use Rattle.scr_stages.proofs.TurnFacts.{All-turns}

pub AreTurns-moves : {n : ℕ} (IsMove : Orbit → Type 0) (turns : List (PlaceTurn n)) (moves : List Orbit)
    → map made_by turns ≡ moves → All IsMove moves → (number : ℕ) → length moves ≡ number → 1 ≤ number
    → number ≤ 256 → AreTurns (λ turn. IsMove (made_by turn)) turns
AreTurns-moves IsMove turns moves e each number count some few =
    let size : length turns ≡ length moves = sym (length-map turns made_by) ∙ ap length e in
    record {
      some = omega (arith, size, count);
      few = omega (arith, size, count);
      each = λ k d lt.
          subst IsMove (ap (λ rs. get_or rs k (made_by d)) (sym e) ∙ get_or-map made_by turns k d (made_by d) lt)
          (each k (made_by d) (omega (arith, size)));
    }

pub length-turned : (part : CubeState → Orbit) (numbers : List ℕ)
    → length (map part (turns_of numbers)) ≡ length numbers
length-turned part numbers = length-map (turns_of numbers) part ∙ length-map numbers (λ t. slice_index_or (all_turns cube_powers) t solved_cube)

-- ---- turns of a block by numbers

module _ (part : CubeState → Orbit) (block : List ℕ) (numbers : List ℕ) (below : All (λ t. t < 18) numbers) where
  abbrev numbered : ℕ → CubeState
  numbered t = slice_index_or (all_turns cube_powers) t solved_cube

  abbrev still : Orbit
  still = record { pieces = []; digits = [] }

  pub block_turns-parts : block_turns block (map part (all_turns cube_powers)) numbers ≡ map (block_turn block) (map part (turns_of numbers))
  block_turns-parts =
      map-same (λ t. block_turn block (slice_index_or (map part (all_turns cube_powers)) t still)) (λ t. block_turn block (part (numbered t))) numbers
      (λ k d lt.
      ap (block_turn block) (get_or-map part (all_turns cube_powers) (get_or numbers k d) solved_cube still (omega (arith, length-turns, below k d lt))))
      ∙ sym (map-map (block_turn block) part (turns_of numbers) ∙ map-map (λ r. block_turn block (part r)) numbered numbers)

  -- where what turns do to the places of a block is all that they do
  whole_turns : map (λ r. block_turn block (part r)) (all_turns cube_powers) ≡ map part (all_turns cube_powers)
      → map (block_turn block) (map part (turns_of numbers)) ≡ map part (turns_of numbers)
  whole_turns whole = grind (arith, map-map, map-same, All-map, at_element, length-turns)

-- ---- what turns by numbers do to all corners or edges

pub corners_whole : map (λ r. block_turn (numbers_from 0 8) r.corners) (all_turns cube_powers) ≡ map (λ r. r.corners) (all_turns cube_powers)
unfolding all_turns all_powers power turned_orbit solved_cube solved_orbit added_digits
corners_whole = refl

pub edges_whole : map (λ r. block_turn (numbers_from 0 12) r.edges) (all_turns cube_powers) ≡ map (λ r. r.edges) (all_turns cube_powers)
unfolding all_turns all_powers power turned_orbit solved_cube solved_orbit added_digits
edges_whole = refl

module _ (n base : ℕ) (part : CubeState → Orbit)
    (whole : map (λ r. block_turn (numbers_from 0 n) (part r)) (all_turns cube_powers) ≡ map part (all_turns cube_powers))
    (turns : List (PlaceTurn n)) (table : List (PlaceTurn n)) (defined : map made_by table ≡ map part (all_turns cube_powers))
    (numbers : List ℕ) (below : All (λ t. t < 18) numbers)
    (are : map made_by turns ≡ block_turns (numbers_from 0 n) (map made_by table) numbers) where
  turned-by : map made_by turns ≡ map part (turns_of numbers)
  turned-by = grind (arith, block_turns-parts, whole_turns)

  pub AreTurned-whole : ((r : CubeState) → IsCube r → IsZeroSumOrbit n base (part r)) → (number : ℕ)
      → length numbers ≡ number → 1 ≤ number → number ≤ 256 → AreTurned n base (map part (turns_of numbers)) turns
  AreTurned-whole valid number size some few =
      let IsMove = IsZeroSumOrbit n base in
      let are_valid = AreTurns-moves IsMove turns (map part (turns_of numbers)) turned-by
      (All-map IsMove part (turns_of numbers) (λ k d lt. let r = slice_index_or (turns_of numbers) k d in valid r (All-turns numbers below k d lt)))
      number (length-turned part numbers ∙ size) some few in
      record { turns = turned-by; valid = are_valid; places = AreTurns-places base turns are_valid }
