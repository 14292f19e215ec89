use Rattle.std.proofs.Common.{IsTrue}
use Rattle.scr_combinatorics.proofs.TidyLaws.{IsTidy-tidy}
use Rattle.scr_puzzle_laws.proofs.MergeLaws.{MergesTo-tidy, tidy-only}
use Rattle.scr_notation.specs.Turns.{permits}
use Rattle.scr_notation.specs.Turning.{turn_merging}
use Rattle.scr_notation.proofs.MergingLaws.{IsMerging-event}
use Rattle.scr_puzzle_laws.proofs.notation.tidied_words.Goals as goal

pub returns-clause-lawful : goal.returns-clause-lawful
returns-clause-lawful c = IsMerging-event

pub returns-clause-tidied : goal.returns-clause-tidied
returns-clause-tidied c = λ event word i a. IsTidy-tidy turn_merging (λ t. IsTrue (permits event t)) (IsMerging-event event i) word

pub returns-clause-merged : goal.returns-clause-merged
returns-clause-merged c = λ word. MergesTo-tidy turn_merging word

pub returns-clause-any_order : goal.returns-clause-any_order
returns-clause-any_order c = λ event word end i a m n.
    tidy-only turn_merging (λ t. IsTrue (permits event t)) (IsMerging-event event i) word end m n a
