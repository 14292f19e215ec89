-- Walks of the stages: where each sets out, how far its table may reach, and what its words have at most.
use Rattle.std.specs.Prelude.{◌≡◌, ℕ, ◌*◌, ◌≤◌, List}
use Rattle.scr_notation.specs.declared.turn.Turn.{Turn}
use Rattle.scr_sq1.specs.Units.{Sq1State, IsSq1, sq1_after}
use Rattle.scr_sq1solve.specs.Counts.{Cost, Costs}
use Rattle.scr_sq1tables.specs.Spaces.{IsNormalSq1, IsPairedSq1}
use Rattle.scr_sq1tables.specs.Letters.{stage_of}
use Rattle.scr_sq1tables.specs.declared.stage_letters.StageLetters.{StageLetters}
use Rattle.scr_sq1tables.specs.declared.stage_letters.StageLetters.TheVariants.{OfShapes, OfPairings, OfHome, Squarings, Quarters}
use Rattle.scr_combinatorics.specs.Stages.{Stage, IsStageWord, spelled}

-- the states from which a stage with these letters sets out
abbrev pub starts_of : StageLetters → Sq1State → Type 0
starts_of OfShapes = IsSq1
starts_of OfPairings = IsNormalSq1
starts_of OfHome = IsPairedSq1
starts_of Squarings = IsSq1
starts_of Quarters = IsPairedSq1

-- so many turns, and so many twists, one of these letters has at most
abbrev pub each_of : StageLetters → Cost
each_of OfShapes = record { turns = 2; twists = 1 }
each_of OfPairings = record { turns = 3; twists = 1 }
each_of OfHome = record { turns = 6; twists = 2 }
each_of Squarings = record { turns = 1; twists = 0 }
each_of Quarters = record { turns = 1; twists = 0 }

-- what a word of a stage has at most
abbrev pub IsWithinCosts : StageLetters → List Turn → Type 0
IsWithinCosts letters turns =
    Costs turns ((stage_of letters).bound * (each_of letters).turns) ((stage_of letters).bound * (each_of letters).twists)

-- A stage's table may reach so far: no farther than the stage, whose words have at most 24 of at most 144 letters.
pub record IsInReach (stage : Stage Sq1State Turn) (bound : ℕ) : Type 0 where
  pub within : bound ≤ stage.bound
  pub short : stage.bound ≤ 24
  pub few_letters : stage.letters ≤ 144

-- The turns of a stage's word from a state, and where they lead.
pub record IsWalk (stage : Stage Sq1State Turn) (s : Sq1State) (turns : List Turn) (end : Sq1State) : Type 0 where
  pub word : List ℕ
  pub is : IsStageWord sq1_after stage s word
  pub turns_are : turns ≡ spelled stage.letter word
  pub end_is : is.first.leads.end ≡ end
