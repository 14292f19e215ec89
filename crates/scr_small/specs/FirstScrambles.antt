-- Scrambles that are first words, taken back. No puzzle stands here.
use Rattle.std.specs.Prelude.{◌≡◌, ℕ, List, map, Option}
use Rattle.scr_combinatorics.specs.Back.{back}
use Rattle.scr_combinatorics.specs.FirstWord.{IsFirstWord}
use Rattle.scr_orbit.specs.PowerPuzzles.{PowerPuzzle, after_letter}
use Rattle.scr_notation.specs.declared.turn.Turn.{Turn}
use Rattle.scr_notation.specs.Turning.{opposite as opposite_turn}

-- The scramble of a state: the first word of turn numbers that leads from it to solved, by length and then by numbers,
-- as letters, taken back.
pub record IsFirstScramble {S T : Type 0} (after : S → T → Option S) (letter_at : ℕ → T) (opposite : T → T)
    (solved s : S) (turns : List T) : Type 0 where
  pub solution : List ℕ
  pub first : IsFirstWord (λ s n. after s (letter_at n)) (λ r. r ≡ solved) s solution
  pub taken_back : turns ≡ back opposite (map letter_at solution)

-- The same of states that are turned by powers of generators: the letters have the numbers of the powers.
abbrev pub IsScrambleByPowers : {S : Type 0} → PowerPuzzle S Turn → S → List Turn → Type 0
IsScrambleByPowers p = IsFirstScramble (after_letter p) p.letters.letter_at opposite_turn p.monoid.solved
