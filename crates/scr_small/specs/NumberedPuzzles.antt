-- Puzzles whose states and turns have numbers, so that one table over the numbers of the states solves them. No puzzle
-- stands here.
use Rattle.std.specs.Prelude.{◌≡◌, ℕ, List, Option}
use Rattle.scr_combinatorics.specs.Numbered.{Numbered}
use Rattle.scr_combinatorics.specs.FirstWord.{IsFirstWord}
use Rattle.scr_combinatorics.specs.Reach.{Puzzle}
use Rattle.scr_positions.specs.Coordinates.{Coordinate}
use Rattle.scr_positions.specs.Indexes.{numbered_coordinate}
use Rattle.scr_orbit.specs.PowerPuzzles.{PowerPuzzle, after_letter, power_turn_count}
use Rattle.scr_notation.specs.declared.turn.Turn.{Turn}
use Rattle.scr_notation.specs.Turning.{opposite as opposite_turn}
use Rattle.scr_table.specs.declared.name.TableName.{TableName}
use Rattle.scr_table.specs.Lines.{TableLine}
use Rattle.scr_small.specs.FirstScrambles.{IsFirstScramble}

-- Numbered states; what a letter makes of one, or nothing where it is no turn of the puzzle; which state is solved; how
-- many turns there are, and the letter of each number below that; and the letter that takes a letter's turn back.
pub record NumberedPuzzle (S T : Type 0) : Type 1 where
  pub numbered : Numbered S
  pub after : S → T → Option S
  pub solved : S
  pub turns : ℕ
  pub letter_at : ℕ → T
  pub opposite : T → T

-- Numbered states that are turned by powers of generators: the letters have the numbers of the powers.
abbrev pub numbered_powers : {S : Type 0} → Numbered S → PowerPuzzle S Turn → NumberedPuzzle S Turn
numbered_powers n p = record {
  numbered = n;
  after = (after_letter p);
  solved = p.monoid.solved;
  turns = power_turn_count p;
  letter_at = p.letters.letter_at;
  opposite = opposite_turn;
}

-- The puzzle that it is: each turn counts once (WCA Regulations, article 4).
abbrev pub numbered_as_puzzle : {S T : Type 0} → NumberedPuzzle S T → Puzzle S
numbered_as_puzzle {T = T} p = record { Turn = T; after = p.after; IsSolved = λ s. s ≡ p.solved; counted = λ t. 1 }

-- what the turn of a number makes of a state: over this, words of turn numbers are played
abbrev pub after_number : {S T : Type 0} → NumberedPuzzle S T → S → ℕ → Option S
after_number p s n = p.after s (p.letter_at n)

-- The puzzle as a coordinate, over the numbers of its states.
abbrev pub state_coordinate : {S T : Type 0} → NumberedPuzzle S T → Coordinate
state_coordinate p = numbered_coordinate p.numbered p.turns (after_number p) p.solved

-- The table of this name over them, where no state is farther than so many turns.
abbrev pub state_line : {S T : Type 0} → NumberedPuzzle S T → TableName → ℕ → TableLine
state_line p name bound = record { name = name; coordinate = state_coordinate p; bound = bound }

-- The first word of turn numbers that leads from a state to solved, in the order of words: by length, and then by
-- numbers.
abbrev pub IsFirstSolution : {S T : Type 0} → NumberedPuzzle S T → S → List ℕ → Type 0
IsFirstSolution p s word = IsFirstWord (after_number p) (λ r. r ≡ p.solved) s word

-- The scramble of a state: the first such word, as letters, taken back.
abbrev pub IsScrambleOf : {S T : Type 0} → NumberedPuzzle S T → S → List T → Type 0
IsScrambleOf p = IsFirstScramble p.after p.letter_at p.opposite p.solved
