use Rattle.scr_cube.proofs.CompositionLaws.{words_joined}
use Rattle.scr_puzzle_laws.proofs.cube.joined.Goals as goal

pub returns : goal.returns
returns c = words_joined c.args.v.now c.args.w.now c.requires.first c.requires.second
