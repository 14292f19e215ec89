-- What lists name.
use Rattle.std.specs.Prelude.{◌≤◌, List, length, All}
use Rattle.scr_list.specs.declared.round.Round.{Round}
use Rattle.scr_list.specs.Rounds.{IsRound}
use Rattle.scr_list.specs.Versions.{version_2}

-- rounds that a list can name
pub record IsRounds (rounds : List Round) : Type 0 where
  pub each : All IsRound rounds
  pub few : length rounds ≤ version_2.most_rounds
