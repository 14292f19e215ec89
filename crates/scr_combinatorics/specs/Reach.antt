-- What turns reach, and how many counted turns a state needs, over what a puzzle shows of itself.
use Rattle.std.specs.Prelude.{◌≡◌, ℕ, ◌<◌, List, Option, Some}
use Rattle.scr_combinatorics.specs.Play.{play, count_in}

-- What a puzzle shows: its turns, what each makes of a state (nothing where it is barred, and where the letter is no
-- turn of the puzzle), which states are solved, and what a turn counts for in a minimum.
pub record Puzzle (S : Type 0) : Type 1 where
  pub Turn : Type 0
  pub after : S → Turn → Option S
  pub IsSolved : S → Type 0
  pub counted : Turn → ℕ

-- Some word leads from a solved state to this one.
abbrev pub IsReached : {S : Type 0} → Puzzle S → S → Type 0
IsReached {S} p s = (w : List p.Turn) × (start : S) × p.IsSolved start × (play p.after start w ≡ Some s)

-- No word with fewer than `least` counted turns leads from this state to a solved one (WCA Regulations, article 4).
abbrev pub Needs : {S : Type 0} → Puzzle S → S → ℕ → Type 0
Needs {S} p s least =
    (w : List p.Turn) (end : S) → count_in p.counted w < least → play p.after s w ≡ Some end → p.IsSolved end → ⊥

-- A state that may be drawn at this minimum: turns reach it, and it needs that many.
abbrev pub IsPermitted : {S : Type 0} → Puzzle S → ℕ → S → Type 0
IsPermitted p least s = IsReached p s × Needs p s least
