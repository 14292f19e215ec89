-- The states and levels that are found so far, as code holds them.
use Rattle.std.specs.Prelude.{ℕ, Option, nat_eq}
use Rattle.std.specs.HashMap.{get}
use Rattle.scr_sq1far.specs.declared.levels.Found.{Found}
use Rattle.scr_sq1far.specs.Levels.{AreListed, Grows}

-- the level of a key, if it has one
abbrev pub level_in : Found → ℕ → Option ℕ
level_in found = get nat_eq found.levels

-- Just the states that are listed have levels, and from each of these at most so many turns lead to solved.
abbrev pub AreFound : ℕ → Found → Type 0
AreFound most found = AreListed most (level_in found) found.states.items

-- More are found, of such states too, and none is lost.
pub record FindsMore (most : ℕ) (old new : Found) : Type 0 where
  pub listed : AreFound most new
  pub grows : Grows (level_in old) old.states.items (level_in new) new.states.items
