use Rattle.scr_tetra.proofs.SkewbLaws.{lawful_skewb}
use Rattle.scr_puzzle_laws.proofs.skewb.turns.Goals as goal

pub returns : goal.returns
returns c = lawful_skewb
