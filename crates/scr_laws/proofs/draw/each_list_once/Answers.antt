use Rattle.std.proofs.Common.{◌^◌, lit<}
use Rattle.scr_combinatorics.proofs.Digits.{lists_one_to_one}
use Rattle.scr_laws.proofs.draw.each_list_once.Goals as goal

pub returns : goal.returns
returns c = λ len. lists_one_to_one len (2 ^ 96) (lit< tt)
