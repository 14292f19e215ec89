-- The lemmas that the proofs of the code cite, by function.
use Rattle.scr_combinatorics.proofs.PermutationLaws.{All-permutation, inverse-at, length-inverse, place_of-lt}
use Rattle.scr_combinatorics.proofs.PermutationNumbers.{permutation_number-lt}
use Rattle.scr_combinatorics.proofs.Picks.{length-pick}
use Rattle.scr_combinatorics.proofs.PlaceSets.{IsPlaceSet-at}
use Rattle.scr_combinatorics.proofs.PlayLaws.{play-empty}
use Rattle.scr_combinatorics.proofs.StepLaws.{play-whole}
use Rattle.scr_cube.proofs.Parity.{parity_by}
use Rattle.scr_orbit.proofs.Places.{pick_by_places}
use Rattle.scr_stages.proofs.Blocks.{IsPlaceSet-places_in, length-places}
use Rattle.scr_stages.proofs.DominoLaws.{IsPlaceSet-first_places}
use Rattle.scr_stages.proofs.StageSpaces.{IsPlaceSet-middle_places}
use Rattle.scr_stages.proofs.TetradLaws.{IsPermutation-places}
use Rattle.scr_stages.proofs.TetradTests.{All-axes, axes_of-read, corners_indexed, corners_related-table, half_list}
use Rattle.scr_stages.proofs.TetradTests.{other_places-reversed, relation_number-read, second_with-read}
use Rattle.std.proofs.lemmas.List.{append-nil, get_or-map, length-map, length-set, map_more, map_push, take_all, take_more_set}
use Rattle.std.proofs.lemmas.List.Edits.{fill_by_more}
use Rattle.std.proofs.lemmas.Nat.{mod_below}

pub ruleset block_turns = (length-set, take_more_set, map_push, map_more, get_or-map, take_all)

pub ruleset corners_at = (other_places-reversed, IsPermutation-places, IsPlaceSet-at, corners_indexed, corners_related-table)

pub ruleset tetrad_at = (length-places, IsPlaceSet-places_in)

pub ruleset half_corners_at = (All-permutation, All-axes, half_list)

pub ruleset half_moves_after = (mod_below)

pub ruleset parities = (fill_by_more, length-set, parity_by)

pub ruleset block_number = (length-map, length-pick, permutation_number-lt)

pub ruleset arrange = (place_of-lt, inverse-at, length-inverse, pick_by_places)

pub ruleset axes_of = (axes_of-read)

pub ruleset corner_index = (relation_number-read)

pub ruleset second_with = (second_with-read)

pub ruleset places_of_edges = (IsPlaceSet-middle_places, IsPlaceSet-first_places)

pub ruleset follow = (append-nil, play-empty, play-whole)
