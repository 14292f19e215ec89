use Rattle.std.proofs.Common.{refl}
use Rattle.scr_cube.proofs.OnLiterals.{cubes_on_literals}
use Rattle.scr_twophase.specs.Fewest.{frame, frame_back, between}
use Rattle.scr_solver_laws.proofs.twophase.known_frames.Goals as goal

pub returns-clause-spelled : goal.returns-clause-spelled
unfolding cubes_on_literals frame
returns-clause-spelled c = refl

pub returns-clause-taken_back : goal.returns-clause-taken_back
unfolding cubes_on_literals frame
returns-clause-taken_back c = refl

pub returns-clause-two_frames : goal.returns-clause-two_frames
unfolding cubes_on_literals frame frame_back between
returns-clause-two_frames c = refl

pub returns-clause-of_solved : goal.returns-clause-of_solved
unfolding cubes_on_literals frame frame_back between
returns-clause-of_solved c = refl
