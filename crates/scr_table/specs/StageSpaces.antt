-- What a search for a stage's words works on.
use Rattle.std.specs.Prelude.{Option}
use Rattle.scr_combinatorics.specs.Stages.{Stage, by_letters}
use Rattle.scr_positions.specs.SearchSpaces.{SearchSpace}

-- Those states of which a table speaks, the letters of its stage, and the stage's goal.
abbrev pub stage_space : {S T : Type 0} → (S → T → Option S) → Stage S T → (S → Type 0) → SearchSpace S
stage_space after stage IsValid =
    record { IsValid = IsValid; after = by_letters after stage.letters stage.letter; IsGoal = stage.IsGoal }
