use Rattle.scr_cube.proofs.HeldLaws.{IsLawful-held, played-faces}
use Rattle.scr_cube.proofs.HeldReach.{held_taken_back, held_kept_by_tidy}
use Rattle.scr_puzzle_laws.proofs.cube.held_turns.Goals as goal

pub returns : goal.returns
returns c = record { lawful = IsLawful-held; taken_back = held_taken_back; tidied = held_kept_by_tidy; faces = played-faces }
