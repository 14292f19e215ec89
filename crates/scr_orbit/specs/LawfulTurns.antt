-- What holds of a puzzle whose letters are turns by a table.
use Rattle.std.specs.Prelude.{◌≡◌, ℕ, List, Option, Some}
use Rattle.std.specs.Option.{option_map}
use Rattle.scr_combinatorics.specs.Play.{play}
use Rattle.scr_combinatorics.specs.Back.{IsTakenBack}
use Rattle.scr_combinatorics.specs.Tidy.{Merging, IsKeptByTidy}
use Rattle.scr_combinatorics.specs.Reach.{IsReached}
use Rattle.scr_orbit.specs.Monoids.{Monoid, IsMonoid, after_by, table_puzzle}

-- The turns of such a puzzle are lawful. The valid states are a monoid, and each letter's turn is one of them; words
-- are taken back by their opposite letters, and tidied by what two letters of one face come to; a word makes of any
-- valid state what that state is turned to by what the word makes of the solved one; and what turns reach from the
-- solved state is valid.
pub record HasLawfulTurns {S T : Type 0} (m : Monoid S) (IsValid : S → Type 0) (table : T → Option S) (opposite : T → T)
    (merging : Merging T) : Type 0 where
  pub joined : IsMonoid m IsValid
  pub turns : (t : T) (r : S) → table t ≡ Some r → IsValid r
  pub kept : (s r : S) (t : T) → IsValid s → after_by m table s t ≡ Some r → IsValid r
  pub taken_back : IsTakenBack (after_by m table) opposite IsValid
  pub kept_by_tidy : IsKeptByTidy (after_by m table) merging IsValid
  pub words : (s : S) (w : List T) → IsValid s
      → play (after_by m table) s w ≡ option_map (m.turned s) (play (after_by m table) m.solved w)
  pub reached : (counted : T → ℕ) (s : S) → IsReached (table_puzzle m table counted) s → IsValid s
