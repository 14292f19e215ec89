use Rattle.scr_combinatorics.proofs.Digits.{mixed_number-at, digits_one_to_one}
use Rattle.scr_laws.proofs.combinatorics.mixed_by_digits.Goals as goal

pub returns-clause-numbered : goal.returns-clause-numbered
returns-clause-numbered c = digits_one_to_one

pub returns-clause-place_has_digit : goal.returns-clause-place_has_digit
returns-clause-place_has_digit c bases ds p k lt = mixed_number-at bases ds p k lt
