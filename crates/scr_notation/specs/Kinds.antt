-- The kinds of puzzles.
use Rattle.std.specs.Prelude.{ℕ, ◌+◌, ◌≤◌}
use Rattle.scr_notation.specs.declared.event.Kind.{Kind}
use Rattle.scr_notation.specs.declared.event.Kind.TheVariants.{Faces, Axes, LayersAndTwist, PinSets, WideTurns}

-- at most three layers are turned at a face, and at the near faces as many as at the far ones or one more
pub record AreDepths (near far : ℕ) : Type 0 where
  pub few : near ≤ 3
  pub near_first : far ≤ near
  pub at_most_one_more : near ≤ far + 1

abbrev pub IsKind : Kind → Type 0
IsKind (Faces near far) = AreDepths near far
IsKind (Axes tips) = Unit {0}
IsKind LayersAndTwist = Unit {0}
IsKind PinSets = Unit {0}
IsKind WideTurns = Unit {0}
