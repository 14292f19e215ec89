-- A built table of which a stage's states go along with the coordinate gives the stage's words.
use Rattle.std.proofs.Common.{ℕ, ◌≤◌, List, length, slice_index, Option, arith}
use Rattle.scr_combinatorics.specs.FirstWord.{IsFirstWord}
use Rattle.scr_combinatorics.specs.Stages.{Stage, by_letters, IsStageWord}
use Rattle.scr_combinatorics.proofs.PlayLaws.{play-keeps}
use Rattle.scr_combinatorics.proofs.FirstWordLaws.{IsDistance-first, IsDistance-unique}
use Rattle.scr_positions.specs.Coordinates.{moved, IsGoal}
use Rattle.scr_positions.specs.SearchSpaces.{positions, Follows}
use Rattle.scr_positions.proofs.SearchLaws.{FindsTheSame-follows}
use Rattle.scr_table.specs.Distances.{Distances}
use Rattle.scr_table.specs.Lines.{TableLine, IsTableOf}
use Rattle.scr_table.specs.StageSpaces.{stage_space}
use Rattle.scr_table.proofs.FoundWords.{first_word}

module _ {S T : Type 0} (after : S → T → Option S) (stage : Stage S T) (IsValid : S → Type 0) (line : TableLine) (view : S → ℕ)
    (follows : Follows (stage_space after stage IsValid) (positions line.coordinate) view) where
  -- its words lead from valid states to valid ones
  pub end_valid : (s : S) (w : List ℕ) → IsValid s → (a : IsStageWord after stage s w) → IsValid a.first.leads.end
  end_valid s w v a =
      play-keeps (by_letters after stage.letters stage.letter) IsValid follows.kept s a.first.leads.end w v a.first.leads.played

  module _ (within : line.bound ≤ stage.bound) (table : Distances) (built : IsTableOf line table) where
    -- the first word from a state's position is that of the stage
    pub IsStageWord-first : (s : S) (w : List ℕ) → IsValid s
        → IsFirstWord (moved line.coordinate) (IsGoal line.coordinate) (view s) w → IsStageWord after stage s w
    IsStageWord-first s w v h =
        let c = line.coordinate in
        let at = follows.valid s v in
        let exact = IsDistance-unique (moved c) (IsGoal c) (view s) (length w) (slice_index table.distances (view s))
        (IsDistance-first (moved c) (IsGoal c) (view s) w h) (built.measures.exact (view s) at) in
        grind (arith, FindsTheSame-follows (stage_space after stage IsValid) (positions c) view follows, exact, at)

    -- and there is one
    pub stage_word : (s : S) → IsValid s → (w : List ℕ) × IsStageWord after stage s w
    stage_word s v =
        let found = first_word line.coordinate table built.measures (view s) (follows.valid s v) in
        (found.0, IsStageWord-first s found.0 v found.1)
