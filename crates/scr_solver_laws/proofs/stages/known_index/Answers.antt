use Rattle.std.proofs.Common.{refl}
use Rattle.scr_stages.specs.Tetrads.{corner_index, relation_of, relation_number, axes_of, shared_axis}
use Rattle.scr_solver_laws.proofs.stages.known_index.Goals as goal

pub returns : goal.returns
unfolding corner_index relation_of relation_number axes_of shared_axis
returns c = refl
