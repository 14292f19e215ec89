use Rattle.std.proofs.Common.{lit≤, ap, ◌∙◌}
use Rattle.scr_combinatorics.specs.Permutations.{permutation_number}
use Rattle.scr_table.proofs.StageLaws.{IsStageWord-first}
use Rattle.scr_orbit.specs.PowerPuzzles.{after_letter}
use Rattle.scr_cube.specs.Cube333.{cube_powers}
use Rattle.scr_stages.specs.Stages.{halves_stage, middle_edges}
use Rattle.scr_stages.specs.Numbers.{AreParts, IsHalfCube, first_edges, second_edges, half_cubes}
use Rattle.scr_stages.specs.Tables.{halves_line}
use Rattle.scr_stages.specs.Tetrads.{in_block, half_corners_number}
use Rattle.scr_stages.proofs.HalfCubes.{part_numbers}
use Rattle.scr_stages.proofs.HalfTurned.{Follows-halves}
use Rattle.scr_stages.proofs.words.halves_word.Goals as goal

parts : (c : goal.After-number_of) → AreParts c.args.cube.now c.block_number.result c.block_number-2.result c.block_number-3.result c.number_of.result
parts c =
    let edges = c.edges-edges.ensures.same in
    record {
      middle_is = c.block_number.ensures.number ∙ ap (λ xs. permutation_number (in_block middle_edges xs)) edges;
      second_is = c.block_number-2.ensures.number ∙ ap (λ xs. permutation_number (in_block second_edges xs)) edges;
      first_is = c.block_number-3.ensures.number ∙ ap (λ xs. permutation_number (in_block first_edges xs)) edges;
      corners_is = c.number_of.ensures ∙ ap half_corners_number c.corners.ensures.same;
    }

pub half_number-requires : goal.half_number-requires
half_number-requires c = part_numbers c.args.cube.now _ _ _ _ c.requires (parts c)

pub returns : goal.returns
returns c =
    let cube = c.args.cube.now in
    IsStageWord-first (after_letter cube_powers) halves_stage IsHalfCube halves_line half_cubes.number_of Follows-halves (lit≤ tt) _
    c.descend.ensures.table cube c.descend.result.items c.requires
    (rw (c.half_number.ensures.number cube (parts c.before.before)) at c.descend.ensures.first)
