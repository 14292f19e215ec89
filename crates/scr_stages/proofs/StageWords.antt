-- The turns of a domino, and where half turns lead from it.
use Rattle.std.proofs.Common.{◌≡◌, ◌<◌, map, subst}
use Rattle.std.specs.Prelude.{All, slice_get}
use Rattle.std.proofs.lemmas.List.Elements.{All-map}
use Rattle.scr_combinatorics.specs.Lists.{pick}
use Rattle.scr_combinatorics.specs.Permutations.{IsPermutation}
use Rattle.scr_combinatorics.proofs.PermutationLaws.{IsPermutation-pick}
use Rattle.scr_combinatorics.proofs.PlayLaws.{map-some}
use Rattle.scr_orbit.specs.Orbits.{Orbit}
use Rattle.scr_orbit.proofs.PowerLaws.{All-got}
use Rattle.scr_positions.specs.Coordinates.{StaysBelow}
use Rattle.scr_positions.specs.SearchSpaces.{positions, Follows}
use Rattle.scr_coord.specs.Projections.{projection}
use Rattle.scr_table.specs.Distances.{Distances}
use Rattle.scr_table.specs.Lines.{IsTableOf}
use Rattle.scr_cube.specs.Cube333.{solved_cube}
use Rattle.scr_cube.specs.ListedTurns.{after_of, cube_space}
use Rattle.scr_stages.specs.Stages.{IsHalfTurned, domino_turns}
use Rattle.scr_stages.specs.Numbers.{tetrads_number, IsDominoCube}
use Rattle.scr_stages.specs.Tables.{turns_of, corners_by, edges_by, outer_places, block_turn, tetrads_coordinate, halves_line}
use Rattle.scr_stages.specs.Tetrads.{corner_index, corners_at, tetrads_view}
use Rattle.scr_stages.proofs.DominoLaws.{IsPermutation-outer}
use Rattle.scr_stages.proofs.TurnFacts.{tetrads_each, All-block_turns}
use Rattle.scr_stages.proofs.TetradTests.{corners_indexed}
use Rattle.scr_stages.proofs.TetradLaws.{corner_index-lt}
use Rattle.scr_stages.proofs.ViewLaws.{Follows-goals}
use Rattle.scr_stages.proofs.StageSpaces.{Follows-tetrads}
use Rattle.scr_stages.proofs.HalfTurned.{tetrads_number-half_turned}

-- ---- the turns of a domino

pub StaysBelow-corners : StaysBelow (projection tetrads_view (corners_by domino_turns))
StaysBelow-corners p t q at turn e =
    let IsMove : Orbit → Type 0 = λ r. IsPermutation 8 r.pieces in
    let moves = All-map IsMove (λ r. r.corners) (turns_of domino_turns) (λ k d lt. (tetrads_each k d lt).cube.corners.pieces) in
    let found = map-some (λ r. corner_index (pick (corners_at p) r.pieces)) (slice_get (corners_by domino_turns) t) q e in
    let made =
    IsPermutation-pick 8 (corners_at p) found.0.pieces (corners_indexed p at).permutation (All-got IsMove (corners_by domino_turns) t found.0 moves found.1) in
    subst (λ k. k < 420) found.2 (corner_index-lt (pick (corners_at p) found.0.pieces) made)

pub outer_moves : All (λ r. IsPermutation 8 r.pieces) (map (block_turn outer_places) (edges_by domino_turns))
outer_moves = All-block_turns domino_turns tetrads_each 8 outer_places IsPermutation-outer

-- ---- dominoes, where the halves are measured

pub Follows-half_turned : (halves : Distances) → IsTableOf halves_line halves
    → Follows (cube_space IsDominoCube domino_turns IsHalfTurned) (positions tetrads_coordinate) tetrads_number
Follows-half_turned halves built =
    Follows-goals IsDominoCube (λ c. tetrads_number c ≡ tetrads_number solved_cube) IsHalfTurned (after_of domino_turns) tetrads_coordinate tetrads_number
    (λ c d. let iff = tetrads_number-half_turned halves built.measures c d in (iff.1, iff.0)) Follows-tetrads
