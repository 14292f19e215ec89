-- Solutions by stages, and the scrambles that they give.
use Rattle.std.proofs.Common.{◌≡◌, ℕ, ◌≤◌, List, [], ◌∷◌, map, length, Some, refl, arith, lit<, lit≤}
use Rattle.std.specs.Prelude.{◌↔◌}
use Rattle.std.proofs.lemmas.List.{length-map, length-reverse}
use Rattle.scr_combinatorics.specs.Play.{play, count_in}
use Rattle.scr_combinatorics.specs.Back.{back}
use Rattle.scr_combinatorics.specs.Tidy.{tidy}
use Rattle.scr_combinatorics.specs.Reach.{IsReached}
use Rattle.scr_combinatorics.specs.Stages.{spelled, IsSolution}
use Rattle.scr_combinatorics.proofs.PlayLaws.{play-keeps}
use Rattle.scr_combinatorics.proofs.StageLaws.{play-spelled, Leads-solution, last_goal, next_solution, CountsWithin, bounds, count-solution, one_scramble, play-scramble}
use Rattle.scr_combinatorics.proofs.TidyLaws.{length-tidy}
use Rattle.scr_orbit.specs.PowerPuzzles.{after_letter, power_puzzle}
use Rattle.scr_orbit.proofs.Minima.{count_once}
use Rattle.scr_notation.specs.declared.turn.Turn.{Turn}
use Rattle.scr_notation.specs.Turning.{opposite, turn_merging}
use Rattle.scr_table.specs.Distances.{Distances}
use Rattle.scr_table.specs.Lines.{AreTablesOf}
use Rattle.scr_table.proofs.LineLaws.{table_of_line}
use Rattle.scr_table.proofs.StageLaws.{stage_word}
use Rattle.scr_cube.specs.Cube333.{CubeState, IsCube, cube_powers, solved_cube}
use Rattle.scr_cube.proofs.Laws333.{lawful_cube}
use Rattle.scr_cube.specs.ListedTurns.{letter_in, after_of, turn_numbers}
use Rattle.scr_stages.specs.Stages.{stages, IsHalfTurned, IsStageScramble, slice_turns, flips_stage, slice_stage, tetrads_stage, halves_stage}
use Rattle.scr_stages.specs.Numbers.{flips_number, slice_number, tetrads_number, half_cubes, IsUnflippedCube, IsDominoCube, IsHalfCube}
use Rattle.scr_stages.specs.Tables.{flips_line, slice_line, tetrads_line, halves_line, stage_lines}
use Rattle.scr_stages.proofs.StageSpaces.{Follows-flips, Follows-unflipped}
use Rattle.scr_stages.proofs.HalfTurned.{IsHalfCube-half_turned, Follows-halves, tetrads_number-half_turned}
use Rattle.scr_stages.proofs.StageWords.{Follows-half_turned}

-- turns keep a cube valid
pub IsCube-played : (c d : CubeState) (turns word : List ℕ) → IsCube c → play (after_of turns) c word ≡ Some d
    → IsCube d
IsCube-played c d turns word h e = play-keeps (after_letter cube_powers) IsCube lawful_cube.lawful.kept c d (spelled (letter_in turns) word) h
    (play-spelled (after_letter cube_powers) (length turns) (letter_in turns) c d word e)

-- ---- the four stages

pub solution-at_most : (c : CubeState) (s : List Turn) → IsSolution (after_letter cube_powers) stages c s
    → length s ≤ 52
unfolding bounds CountsWithin count_in
solution-at_most c s a =
    let once : (n : ℕ) → 1 ≤ 1 = λ n. lit≤ tt in
    omega (
      arith,
      count_once s,
      count-solution (after_letter cube_powers) (λ t. 1) stages (1 ∷ 1 ∷ 1 ∷ 1 ∷ []) c s (once, (once, (once, (once, tt)))) a,
    )

pub solution-played : (c : CubeState) (s : List Turn) → IsSolution (after_letter cube_powers) stages c s
    → play (after_letter cube_powers) c s ≡ Some solved_cube
unfolding last_goal
solution-played c s a =
    let Any : CubeState → Type 0 = λ c. Unit {0} in
    grind (arith, Leads-solution (after_letter cube_powers) stages Any c s tt a)

-- Where the tables are built, each cube has a solution.
pub solution : (tables : List Distances) → AreTablesOf stage_lines tables → (c : CubeState) → IsCube c
    → (s : List Turn) × IsSolution (after_letter cube_powers) stages c s
solution tables built c h =
    let table = table_of_line stage_lines tables built in
    let of_flips = table flips_line (0, lit< tt, refl) in
    let of_slice = table slice_line (1, lit< tt, refl) in
    let of_tetrads = table tetrads_line (2, lit< tt, refl) in
    let of_halves = table halves_line (3, lit< tt, refl) in
    let by_table = stage_word (after_letter cube_powers) in
    let flips = by_table flips_stage IsCube flips_line flips_number Follows-flips (lit≤ tt) of_flips.0 of_flips.1 c h in
    let first = flips.1.first.leads in
    let second_valid : IsUnflippedCube first.end =
    record { cube = IsCube-played c first.end turn_numbers flips.0 h first.played; no_flips = first.goal } in
    let slice =
    by_table slice_stage IsUnflippedCube slice_line slice_number Follows-unflipped (lit≤ tt) of_slice.0 of_slice.1 first.end second_valid in
    let second = slice.1.first.leads in
    let third_valid : IsDominoCube second.end =
    record { cube = IsCube-played first.end second.end slice_turns slice.0 second_valid.cube second.played; domino = second.goal } in
    let tetrads =
    by_table tetrads_stage IsDominoCube tetrads_line tetrads_number (Follows-half_turned of_halves.0 of_halves.1) (lit≤ tt)
    of_tetrads.0 of_tetrads.1 second.end third_valid in
    let third = tetrads.1.first.leads in
    let halves =
    by_table halves_stage IsHalfCube halves_line half_cubes.number_of Follows-halves (lit≤ tt) of_halves.0 of_halves.1 third.end (IsHalfCube-half_turned third.end third.goal) in
    let next = next_solution (after_letter cube_powers) in
    next flips_stage (slice_stage ∷ tetrads_stage ∷ halves_stage ∷ []) c flips
    (next slice_stage (tetrads_stage ∷ halves_stage ∷ []) first.end slice
    (next tetrads_stage (halves_stage ∷ []) second.end tetrads (next halves_stage [] third.end halves ([], refl))))

-- Where the tables are built, a domino has the index of solved exactly where half turns reach it.
pub tetrads_number-built : (tables : List Distances) → AreTablesOf stage_lines tables → (c : CubeState) → IsDominoCube c
    → (tetrads_number c ≡ tetrads_number solved_cube) ↔ IsHalfTurned c
tetrads_number-built tables built = grind (arith, table_of_line, tetrads_number-half_turned)

-- ---- scrambles

pub IsStageScramble-unique : (c : CubeState) (s t : List Turn) → IsStageScramble c s → IsStageScramble c t → s ≡ t
IsStageScramble-unique = one_scramble (after_letter cube_powers) opposite turn_merging stages

pub scramble-at_most : (c : CubeState) (s : List Turn) → IsStageScramble c s → length s ≤ 52
scramble-at_most c s a =
    grind (
      arith,
      length-reverse (map opposite (tidy turn_merging a.solution)),
      length-map (tidy turn_merging a.solution) opposite,
      length-tidy turn_merging a.solution,
      solution-at_most c a.solution a.is,
    )

-- a scramble leads from solved to the cube
pub scramble-played : (c : CubeState) (s : List Turn) → IsCube c → IsStageScramble c s
    → play (after_letter cube_powers) solved_cube s ≡ Some c
scramble-played c s h a =
    play-scramble (after_letter cube_powers) opposite turn_merging stages IsCube lawful_cube.lawful.taken_back lawful_cube.lawful.kept_by_tidy c
    solved_cube s h a (solution-played c a.solution a.is)

-- Where the tables are built, each cube has one, and so is reached.
module _ (tables : List Distances) (built : AreTablesOf stage_lines tables) where
  pub stage_scramble : (c : CubeState) → IsCube c → (s : List Turn) × IsStageScramble c s
  stage_scramble c h =
      let found = solution tables built c h in
      (back opposite (tidy turn_merging found.0), record { solution = found.0; is = found.1; taken_back = refl })

  pub IsReached-iff : (c : CubeState) → IsCube c ↔ IsReached (power_puzzle cube_powers) c
  IsReached-iff c = (
    λ h. let made = stage_scramble c h in (made.0, solved_cube, refl, scramble-played c made.0 h made.1),
    λ r. lawful_cube.lawful.reached (λ t. 1) c r,
  )
