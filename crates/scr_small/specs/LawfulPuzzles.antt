-- What is so of a numbered puzzle.
use Rattle.std.specs.Prelude.{◌≡◌, ℕ, ◌<◌, ◌≤◌, Some, None}
use Rattle.scr_combinatorics.specs.Numbering.{IsNumbering}
use Rattle.scr_combinatorics.specs.Back.{IsTakenBack}
use Rattle.scr_small.specs.NumberedPuzzles.{NumberedPuzzle}

-- Its states are numbered one to one, and solved is one of them; turns keep states valid, and are taken back by their
-- opposites; the letters of the numbers below the count are all that do something.
pub record IsNumberedPuzzle {S T : Type 0} (p : NumberedPuzzle S T) : Type 0 where
  pub numbering : IsNumbering p.numbered
  pub solved : p.numbered.IsValid p.solved
  pub kept : (s r : S) (t : T) → p.numbered.IsValid s → p.after s t ≡ Some r → p.numbered.IsValid r
  pub taken_back : IsTakenBack p.after p.opposite p.numbered.IsValid
  pub numbers : (s r : S) (t : T) → p.after s t ≡ Some r → (n : ℕ) × (n < p.turns) × (p.letter_at n ≡ t)
  pub no_more : (s : S) (n : ℕ) → p.turns ≤ n → p.after s (p.letter_at n) ≡ None
