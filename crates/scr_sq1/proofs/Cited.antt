-- The lemmas that the proofs of the code cite, by function.
use Rattle.scr_combinatorics.proofs.Counts.{occurrences-le_length}
use Rattle.scr_combinatorics.proofs.Numberings.{only_one}
use Rattle.scr_combinatorics.proofs.PermutationLaws.{All-permutation}
use Rattle.scr_combinatorics.proofs.PlayLaws.{play-empty}
use Rattle.scr_combinatorics.proofs.StepLaws.{play-barred, play-more, play-whole}
use Rattle.scr_sq1.proofs.HalfNumbers.{shapes_one_to_one}
use Rattle.scr_sq1.proofs.InHalves.{IsSq1-filled}
use Rattle.scr_sq1.proofs.Lawful.{IsSq1-solved, IsSq1-turned, after_layers-closed, after_layers-open, units_turned}
use Rattle.scr_sq1.proofs.LayersApart.{crosses-turned, is_open-crossed, is_open-cut}
use Rattle.scr_sq1.proofs.PieceSteps.{corners_end, corners_first, corners_room, corners_same, corners_second, corners_start, edges_end, edges_more, edges_room, edges_same, edges_start}
use Rattle.scr_sq1.proofs.Places.{place_before-lt}
use Rattle.scr_sq1.proofs.ShapeSteps.{corner_count-few, corners_table-at, counted_start, falling_few, falling_found, falling_next, falling_start, half_bits-lt, half_bits-more, half_bits-none, made_end, made_start, read_end, read_next, read_start, ways_table}
use Rattle.scr_sq1.proofs.Steps.{picked_by_units, turned_by_units}
use Rattle.scr_sq1.proofs.TurnLaws.{IsSq1-twisted}
use Rattle.std.proofs.lemmas.Int.{to_z-of_z}

pub ruleset turn = (to_z-of_z, after_layers-open, after_layers-closed, units_turned, IsSq1-turned, turned_by_units, place_before-lt)

pub ruleset twist = (IsSq1-twisted, picked_by_units)

pub ruleset play = (play-empty, play-more, play-barred, play-whole)

pub ruleset solved = (IsSq1-solved)

pub ruleset state_at = (All-permutation)

pub ruleset shape = (read_start, read_next, read_end, half_bits-none, half_bits-more, half_bits-lt)

pub ruleset shape_number = (shapes_one_to_one, counted_start)

pub ruleset shape_at = (only_one, shapes_one_to_one, made_start, made_end, falling_start, falling_next, falling_few, falling_found, ways_table, corner_count-few, corners_table-at)

pub ruleset is_open_turned = (place_before-lt, is_open-cut, is_open-crossed, crosses-turned)

pub ruleset from_units = (occurrences-le_length, IsSq1-filled)

pub ruleset pieces = (corners_start, corners_room, corners_first, corners_second, corners_same, corners_end, edges_start, edges_room, edges_more, edges_same, edges_end)
