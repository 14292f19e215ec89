use Rattle.scr_picture_laws.proofs.FairRuns.{run_pictured}
use Rattle.scr_picture_laws.proofs.run_in_pictures.Goals as goal

pub returns : goal.returns
returns g c = run_pictured _ _ c.run.ensures.headline
