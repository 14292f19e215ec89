-- The states of which the tables of the later stages speak.
use Rattle.scr_sq1.specs.Units.{Sq1State, IsSq1}
use Rattle.scr_sq1tables.specs.Stages.{IsNormal, IsPaired}

-- the normal ones,
pub record IsNormalSq1 (s : Sq1State) : Type 0 where
  pub valid : IsSq1 s
  pub normal : IsNormal s

-- and those among them in which mates stand opposite to each other
pub record IsPairedSq1 (s : Sq1State) : Type 0 where
  pub normal : IsNormalSq1 s
  pub paired : IsPaired s
