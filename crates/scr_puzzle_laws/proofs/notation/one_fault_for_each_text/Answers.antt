use Rattle.scr_puzzle_laws.proofs.FaultLaws.{one_fault}
use Rattle.scr_puzzle_laws.proofs.notation.one_fault_for_each_text.Goals as goal

pub returns : goal.returns
returns c = one_fault
