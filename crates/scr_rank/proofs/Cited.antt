-- The lemmas that the proofs of the code cite, by function.
use Rattle.scr_combinatorics.proofs.Digits.{AreDigits-mixed_digits, digits_one_to_one, mixed_number-at, mixed_number-lt, mixed_number-mixed_digits}
use Rattle.scr_combinatorics.proofs.Halves.{IsHalf-half_at, half_at-only, halves_one_to_one, two_from_half}
use Rattle.scr_combinatorics.proofs.Numberings.{only_one}
use Rattle.scr_combinatorics.proofs.Pairings.{IsPairing-at, pairing_number-at, pairing_number-lt, pairings_one_to_one}
use Rattle.scr_combinatorics.proofs.PermutationNumbers.{IsPermutation-at, nth_except-above, nth_except-below, permutation_number-at, permutation_number-lt, permutations_one_to_one}
use Rattle.scr_combinatorics.proofs.PlaceSets.{IsPlaceSet-at, binomial-above, place_set_number-at, place_set_number-lt, place_sets_one_to_one}
use Rattle.scr_combinatorics.proofs.Twists.{twists_number-at, twists_number-lt, twists_one_to_one}
use Rattle.scr_rank.proofs.DigitSteps.{pow_small, ranked_by as ranked_by-of-DigitSteps}
use Rattle.scr_rank.proofs.MixedSteps.{base-pos, length-digits, product-drop, product-pos, product_more, ranked_by}
use Rattle.scr_rank.proofs.PairingSteps.{IsPairing-unranked, WrittenPairs-end, WrittenRest-end, rank_end, rank_step, unranked_end, unranked_more}
use Rattle.scr_rank.proofs.PermutationSteps.{factorial-small, inversions-drop, inversions-small, unrank_end as unrank_end-of-PermutationSteps, unrank_room, unrank_start, unrank_step}
use Rattle.scr_rank.proofs.PlaceSetSteps.{binomial-small, count_small, count_step, ranked_here, ranked_low, ranked_next, ranked_past, ranked_start, some_left, unrank_end as unrank_end-of-PlaceSetSteps, unranked_next, unranked_past, unranked_start, unranked_takes}
use Rattle.std.proofs.Common.{add-one}
use Rattle.std.proofs.lemmas.List.{get_or-take, length-replicate}

pub ruleset twist_rank_rank = (twists_number-lt, ranked_by-of-DigitSteps)

pub ruleset twist_rank_unrank = (pow_small, length-replicate, twists_one_to_one, twists_number-at, only_one)

pub ruleset count = (product-drop, product_more)

pub ruleset new = (product-pos)

pub ruleset mixed_radix_rank = (mixed_number-lt, ranked_by, length-digits)

pub ruleset mixed_radix_unrank = (AreDigits-mixed_digits, mixed_number-mixed_digits, mixed_number-at, only_one, digits_one_to_one, base-pos)

pub ruleset pairing8_rank = (rank_step, rank_end, pairing_number-lt)

pub ruleset pairing8_unrank = (IsPairing-at, pairing_number-at, only_one, pairings_one_to_one, IsPairing-unranked, unranked_more, unranked_end)

pub ruleset with_first_pair = (WrittenPairs-end)

pub ruleset without_first_pair = (get_or-take, WrittenRest-end)

pub ruleset even_perm_rank_unrank = (factorial-small, length-replicate, IsHalf-half_at, only_one, halves_one_to_one)

pub ruleset perm_rank_rank = (permutation_number-lt)

pub ruleset perm_rank_unrank = (factorial-small, length-replicate, IsPermutation-at, only_one, permutations_one_to_one)

pub ruleset is_odd = (inversions-drop, inversions-small)

pub ruleset raise_from = (add-one, nth_except-above, nth_except-below)

pub ruleset unrank_permutation = (unrank_room, unrank_step, unrank_start, unrank_end-of-PermutationSteps, IsPermutation-at, permutation_number-at)

pub ruleset unrank_with_parity = (factorial-small, two_from_half, half_at-only)

pub ruleset choose_rank = (place_set_number-lt, ranked_start, ranked_next, ranked_low, ranked_here, ranked_past)

pub ruleset choose_unrank = (binomial-small, length-replicate, IsPlaceSet-at, place_set_number-at, only_one, place_sets_one_to_one, unranked_start, unranked_next, some_left, unranked_takes, unranked_past, unrank_end-of-PlaceSetSteps)

pub ruleset count_sets = (binomial-above, count_small, count_step)
