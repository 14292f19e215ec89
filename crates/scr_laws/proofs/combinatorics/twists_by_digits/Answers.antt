use Rattle.scr_combinatorics.proofs.Twists.{twists_number-at, twists_one_to_one}
use Rattle.scr_laws.proofs.combinatorics.twists_by_digits.Goals as goal

pub returns-clause-numbered : goal.returns-clause-numbered
returns-clause-numbered c = twists_one_to_one

pub returns-clause-place_has_digit : goal.returns-clause-place_has_digit
returns-clause-place_has_digit c n base ds p k lt = twists_number-at n base ds p k lt
