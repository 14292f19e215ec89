-- What a search of few turns sees of a puzzle, and what two turns in a row may come to.
use Rattle.std.specs.Prelude.{◌≡◌, ℕ, ◌<◌, ◌≤◌, nat_lt, Bool, IsTrue, Option, Some, None, if◌then◌else◌, List, length, ◌∷◌, ◌⊎◌}
use Rattle.scr_combinatorics.specs.Play.{play}
use Rattle.scr_combinatorics.specs.Reach.{Puzzle}
use Rattle.scr_combinatorics.specs.FirstWord.{LeadsTo}

-- Turns, the numbers below a count; what a turn makes of a state, or nothing where it is refused; which states are
-- solved.
pub record MoveSet (S : Type 0) : Type 0 where
  pub count : ℕ
  pub after : S → ℕ → Option S
  pub is_solved : S → Bool

-- what the turn of a number makes of a state, or nothing where there is no such turn: over this, words are played
abbrev pub after_move : {S : Type 0} → MoveSet S → S → ℕ → Option S
after_move m s t = if nat_lt t m.count then m.after s t else None

abbrev pub IsSolved : {S : Type 0} → MoveSet S → S → Type 0
IsSolved m s = IsTrue (m.is_solved s)

-- the puzzle that these moves are, where each turn counts for one
abbrev pub move_puzzle : {S : Type 0} → MoveSet S → Puzzle S
move_puzzle m = record { Turn = ℕ; after = after_move m; IsSolved = IsSolved m; counted = λ _. 1 }

-- Each word that brings a state to solved has at least so many turns.
abbrev pub NeedsTurns : {S : Type 0} → MoveSet S → S → ℕ → Type 0
NeedsTurns m s least = (w : List ℕ) → LeadsTo (after_move m) (IsSolved m) s w → least ≤ length w

-- One turn right after another never helps: whatever the two make of a state, a word of at most one turn makes of it
-- too.
abbrev pub NeverHelps : {S : Type 0} → MoveSet S → ℕ → ℕ → Type 0
NeverHelps {S} m first second =
    (s r q : S) → after_move m s first ≡ Some r → after_move m r second ≡ Some q
    → (w : List ℕ) × (length w ≤ 1) × (play (after_move m) s w ≡ Some q)

-- Some word of at most so many turns brings a state to solved.
abbrev pub HasWordWithin : {S : Type 0} → MoveSet S → S → ℕ → Type 0
HasWordWithin m s most = (w : List ℕ) × LeadsTo (after_move m) (IsSolved m) s w × (length w ≤ most)

-- Some word that leads to solved has fewer turns than this one.
abbrev pub HasShorter : {S : Type 0} → MoveSet S → S → List ℕ → Type 0
HasShorter m s w = (v : List ℕ) × LeadsTo (after_move m) (IsSolved m) s v × (length v < length w)

-- A word's first turn never helps right after the turn before it, if there was one.
abbrev pub BeginsIdly : {S : Type 0} → MoveSet S → Option ℕ → List ℕ → Type 0
BeginsIdly m None w = ⊥
BeginsIdly m (Some before) w = (t : ℕ) × (v : List ℕ) × (w ≡ t ∷ v) × NeverHelps m before t

-- Each word of at most so many turns that brings a state to solved can be made shorter, or goes on idly from the turn
-- before.
abbrev pub AreLeftOut : {S : Type 0} → MoveSet S → S → Option ℕ → ℕ → Type 0
AreLeftOut m s before most =
    (w : List ℕ) → LeadsTo (after_move m) (IsSolved m) s w → length w ≤ most → HasShorter m s w ⊎ BeginsIdly m before w
