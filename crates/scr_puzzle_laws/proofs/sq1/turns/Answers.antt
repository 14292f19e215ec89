use Rattle.scr_sq1.proofs.InHalves.{is_open-valid}
use Rattle.scr_sq1.proofs.Lawful.{IsLawful-sq1, sq1_taken_back, sq1_kept_by_tidy, IsSq1-reached}
use Rattle.scr_puzzle_laws.proofs.sq1.turns.Goals as goal

pub returns : goal.returns
returns c = record { lawful = IsLawful-sq1; taken_back = sq1_taken_back; tidied = sq1_kept_by_tidy; reached = IsSq1-reached; opened = is_open-valid }
