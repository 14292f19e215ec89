-- The lemmas that the proofs of the laws cite, by law.
use Rattle.scr_puzzle_laws.proofs.Barred.{barred-iff}
use Rattle.scr_puzzle_laws.proofs.Motions.{bottom_moved, equator_kept, left_kept, moved_to_bottom, moved_to_top, top_moved}

pub ruleset played_where_none_is_barred = (barred-iff)

pub ruleset motions = (top_moved, bottom_moved, equator_kept, moved_to_bottom, moved_to_top, left_kept)
