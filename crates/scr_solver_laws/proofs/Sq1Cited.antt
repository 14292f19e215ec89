-- The lemmas that the proofs of the laws cite, by law.
use Rattle.scr_sq1tables.proofs.StateTables.{AreLinesOf-sq1}

pub ruleset told_by_states = (AreLinesOf-sq1)
