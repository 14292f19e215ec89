-- The lemmas that the proofs of the code cite, by function.
use Rattle.scr_positions.proofs.Written.{each_written_from}
use Rattle.scr_table.proofs.CountLaws.{counted_more}
use Rattle.scr_table.proofs.FilledLaws.{IsLeast-barred, IsLeast-next, IsLeast-none, IsLeast-seen}
use Rattle.scr_table.proofs.MovesLaws.{AreLeftOut-tried, AreLeftOut-unsolved, AreTried-idle, AreTried-looked, AreTried-refused, HasWordWithin-next, HasWordWithin-solved}
use Rattle.scr_table.proofs.StepLaws.{moved-after}
use Rattle.scr_table.proofs.StoredLaws.{AreStored-stored, deep_below-more, deep_below-none, deep_below-same, each_pushed, stored_is}
use Rattle.std.proofs.Common.{below_more, get_or-set_other, get_or-set_same, length-set}
use Rattle.std.proofs.lemmas.List.{get_or-replicate, length-take}

pub ruleset least_neighbour = (IsLeast-barred, IsLeast-next, moved-after)

pub ruleset least_neighbours = (length-take, IsLeast-seen)

pub ruleset is_within = (HasWordWithin-solved, AreLeftOut-unsolved, AreLeftOut-tried)

pub ruleset block_of = (get_or-set_other, get_or-set_same, below_more)

pub ruleset blocks_of = (each_pushed)

pub ruleset deep_of = (deep_below-more, deep_below-none, deep_below-same)

pub ruleset of = (AreStored-stored, stored_is)

pub ruleset checked_block = (each_written_from)

pub ruleset counts = (length-set, counted_more)
