-- Puzzles of pieces whose turns are powers of a few generators, as a cube's are of its quarter turns.
use Rattle.std.specs.Prelude.{◌≡◌, ℕ, ◌-◌, ◌*◌, ◌<◌, ◌≤◌, List, map, length, All, slice_get, Option, Some, None}
use Rattle.scr_combinatorics.specs.PowerLetters.{PowerLetters}
use Rattle.scr_combinatorics.specs.Reach.{Puzzle}
use Rattle.scr_combinatorics.specs.Tidy.{Merging}
use Rattle.scr_orbit.specs.Monoids.{Monoid, IsOrder, IsWordOrder, after_by, table_puzzle, power_table, all_powers}
use Rattle.scr_orbit.specs.LawfulTurns.{HasLawfulTurns}

-- A puzzle as data: its letters, what turns make of its states, and its generators.
pub record PowerPuzzle (S T : Type 0) : Type 0 where
  pub letters : PowerLetters T
  pub monoid : Monoid S
  pub generators : List S

-- Which turn each letter is; a letter that is no power of the generators is none.
abbrev pub letter_table : {S T : Type 0} → PowerPuzzle S T → T → Option S
letter_table p = power_table p.monoid p.generators p.letters.power_at

-- What a letter makes of a state: nothing where it is no turn of the puzzle.
abbrev pub after_letter : {S T : Type 0} → PowerPuzzle S T → S → T → Option S
after_letter p = after_by p.monoid (letter_table p)

-- Each turn counts once (WCA Regulations, article 4).
abbrev pub power_puzzle : {S T : Type 0} → PowerPuzzle S T → Puzzle S
power_puzzle p = table_puzzle p.monoid (letter_table p) (λ t. 1)

-- All turns, in the order of their numbers, what they are of a part of the puzzle, and how many they are.
unfoldable pub all_turns : {S T : Type 0} → PowerPuzzle S T → List S
all_turns p = all_powers p.monoid p.letters.order p.generators

abbrev pub part_turns : {S T Q : Type 0} → (S → Q) → PowerPuzzle S T → List Q
part_turns part p = map part (all_turns p)

abbrev pub power_turn_count : {S T : Type 0} → PowerPuzzle S T → ℕ
power_turn_count p = (p.letters.order - 1) * length p.generators

-- The word of turns with these numbers.
abbrev pub word_at : {S T : Type 0} → PowerPuzzle S T → List ℕ → List T
word_at p numbers = map p.letters.letter_at numbers

-- Words by the numbers of their turns are done as often as stands beside each, and no less, to move nothing.
abbrev pub HaveOrders : {S T : Type 0} → PowerPuzzle S T → List (List ℕ × ℕ) → Type 0
HaveOrders p rows = All (λ row. IsWordOrder p.monoid (letter_table p) (word_at p row.0) row.1) rows

-- What holds of such a puzzle, where letters are taken back and merged so: its turns are lawful; each generator is of
-- the letters' order; all turns, in order, are those of the letters with their numbers, and no other letter does
-- anything.
pub record IsPowerPuzzle {S T : Type 0} (p : PowerPuzzle S T) (IsValid : S → Type 0) (opposite : T → T)
    (merging : Merging T) : Type 0 where
  pub lawful : HasLawfulTurns p.monoid IsValid (letter_table p) opposite merging
  pub orders : All (λ r. IsOrder p.monoid r p.letters.order) p.generators
  pub numbered : (n : ℕ) → slice_get (all_turns p) n ≡ letter_table p (p.letters.letter_at n)
  pub numbers : (s r : S) (t : T) → after_letter p s t ≡ Some r
      → (n : ℕ) × (n < power_turn_count p) × (p.letters.letter_at n ≡ t)
  pub no_more : (s : S) (n : ℕ) → power_turn_count p ≤ n → after_letter p s (p.letters.letter_at n) ≡ None
