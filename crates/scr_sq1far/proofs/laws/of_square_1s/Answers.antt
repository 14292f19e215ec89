use Rattle.std.proofs.Common.{refl, subst, sym}
use Rattle.scr_notation.specs.Turning.{opposite}
use Rattle.scr_sq1.specs.Units.{IsSq1, sq1_after, sq1_puzzle}
use Rattle.scr_sq1.proofs.Lawful.{IsLawful-sq1, IsSq1-solved, sq1_taken_back}
use Rattle.scr_combinatorics.proofs.PlayLaws.{play-keeps}
use Rattle.scr_sq1far.proofs.Meeting.{meeting}
use Rattle.scr_sq1far.proofs.WithinLaws.{Needs-iff}
use Rattle.scr_sq1far.proofs.laws.of_square_1s.Goals as goal

pub returns-clause-meeting : goal.returns-clause-meeting
returns-clause-meeting c =
    meeting sq1_puzzle opposite IsSq1 (play-keeps sq1_after IsSq1 IsLawful-sq1.keeps) (λ s e. subst IsSq1 (sym e) IsSq1-solved) sq1_taken_back

pub returns-clause-needs : goal.returns-clause-needs
returns-clause-needs c = λ s most. Needs-iff s _ most refl
