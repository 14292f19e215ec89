-- The lemmas that the proofs of the code cite, by function.
use Rattle.scr_search.proofs.BitSets.{has_turn-without, lowest-in, lowest-lt, turns_in-lowest, turns_in-none}
use Rattle.scr_search.proofs.NearBits.{both_bits}
use Rattle.std.proofs.Common.{ltb-true}
use Rattle.std.proofs.lemmas.Option.{slice_get_read}

pub ruleset pop = (turns_in-none, turns_in-lowest, lowest-lt, lowest-in, has_turn-without)

pub ruleset has = (ltb-true, slice_get_read, both_bits)
