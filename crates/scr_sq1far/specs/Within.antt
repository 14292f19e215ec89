-- What few turns lead to, over what a puzzle shows of itself.
use Rattle.std.specs.Prelude.{◌≡◌, ℕ, ◌≤◌, List, length, Some}
use Rattle.scr_combinatorics.specs.Play.{play}
use Rattle.scr_combinatorics.specs.Reach.{Puzzle}

-- Some word of at most so many turns leads from this state to a solved one.
abbrev pub IsWithin : {S : Type 0} → Puzzle S → S → ℕ → Type 0
IsWithin {S} p s most =
    (w : List p.Turn) × (end : S) × (length w ≤ most) × (play p.after s w ≡ Some end) × p.IsSolved end

-- Some word of at most so many turns leads from a solved state to this one.
abbrev pub IsReachedWithin : {S : Type 0} → Puzzle S → S → ℕ → Type 0
IsReachedWithin {S} p s most =
    (w : List p.Turn) × (start : S) × (length w ≤ most) × (play p.after start w ≡ Some s) × p.IsSolved start

-- Two words meet in the middle: one of at most so many turns leads from this state to another, and to that one leads one
-- of at most so many from a solved state.
abbrev pub MeetsInTheMiddle : {S : Type 0} → Puzzle S → S → ℕ → ℕ → Type 0
MeetsInTheMiddle {S} p s most others =
    (w : List p.Turn) × (middle : S) × (length w ≤ most) × (play p.after s w ≡ Some middle)
    × IsReachedWithin p middle others
