-- The lemmas that the proofs of the code cite, by function.
use Rattle.scr_combinatorics.proofs.PermutationLaws.{All-permutation, IsPermutation-pick, at-permutation}
use Rattle.scr_combinatorics.proofs.PermutationNumbers.{permutation_number-lt}
use Rattle.scr_combinatorics.proofs.Picks.{All-pick, length-pick}
use Rattle.scr_combinatorics.proofs.StageLaws.{by_letters-played}
use Rattle.scr_notation.proofs.Below.{All-from_test}
use Rattle.scr_orbit.proofs.OrbitLaws.{places_in}
use Rattle.scr_positions.proofs.MoveLaws.{each_below-at, each_below-more, each_below-none, length-each_below}
use Rattle.scr_sq1tables.proofs.Codes.{IsPairing-carried, StaysBelow-code_lists, codes_one_to_one, larger-lt, pair-lt, pieces-are, turned-lt}
use Rattle.scr_sq1tables.proofs.HomeStage.{StaysBelow-square}
use Rattle.scr_sq1tables.proofs.LetterWords.{layers_word-at, place_at, place_less, place_more, place_on}
use Rattle.scr_sq1tables.proofs.Numbers.{filled_more, numbers_all}
use Rattle.scr_sq1tables.proofs.PairingStage.{IsKept-home, IsKept-quarters, StaysBelow-pairing_lists}
use Rattle.scr_sq1tables.proofs.ShapeStage.{StaysBelow-parts, StaysBelow-shapes, after-amounts, layers-index, letter-index, part-made, part-seen, parts-below, play-bottom, play-top, play-twist, read-amount, state-of_index, still-index, still-parts}
use Rattle.std.proofs.lemmas.Bool.{cond-false, cond-true, le-ltb, lt-ltb}
use Rattle.std.proofs.lemmas.Int.{ints}
use Rattle.std.proofs.lemmas.List.{ext_get_or, get_or-map, get_or_read, length-map}
use Rattle.std.proofs.lemmas.List.Elements.{All-weaker}
use Rattle.std.proofs.lemmas.Nat.{mod_below}

pub ruleset pieces_at = (at-permutation, codes_one_to_one, larger-lt, pair-lt, turned-lt, pieces-are)

pub ruleset carried_pairing = (ext_get_or, get_or-map, length-map, at-permutation, IsPairing-carried)

pub ruleset code_of = (All-permutation, All-pick, All-from_test, permutation_number-lt, length-pick)

pub ruleset shape_moves_after = (by_letters-played, letter-index)

pub ruleset part_of_shape_moves = (part-seen, parts-below)

pub ruleset turned = (layers-index)

pub ruleset shape_moves_build = (StaysBelow-shapes)

pub ruleset pairing_lists_new = (StaysBelow-pairing_lists)

pub ruleset moved_pieces = (IsPermutation-pick, places_in)

pub ruleset code_lists_new = (All-weaker, StaysBelow-code_lists)

pub ruleset shape_states_after = (part-made, still-parts, still-index, get_or_read, length-each_below, each_below-at)

pub ruleset shape_states_build = (each_below-none, each_below-more, StaysBelow-parts, state-of_index)

pub ruleset shapes_index = (mod_below)

pub ruleset square_moves_build = (IsKept-home, IsKept-quarters, StaysBelow-square)

pub ruleset letter_places = (filled_more, numbers_all)

pub ruleset after_part = (read-amount, after-amounts, play-top, play-bottom, play-twist)

pub ruleset letter_numbers = (cond-true, cond-false, lt-ltb, le-ltb, ints, layers_word-at, place_at, place_on, place_less, place_more)
