-- The lemmas that the proofs of the code cite, by function.
use Rattle.std.proofs.lemmas.List.{length_push}
use Rattle.scr_bigs.proofs.BitLaws.{always-accepted, rest-more, row-end, row-more, rows-more}

pub ruleset megaminx = (rows-more, always-accepted)

pub ruleset push_row = (row-more, rest-more, row-end, length_push)
