-- Solving by stages, over any states and turns. No puzzle stands here.
use Rattle.std.specs.Prelude.{◌≡◌, ℕ, ◌≤◌, nat_lt, if◌then◌else◌, List, [], ◌∷◌, ◌++◌, length, flat_map, Option, None}
use Rattle.scr_combinatorics.specs.Play.{play}
use Rattle.scr_combinatorics.specs.FirstWord.{IsFirstWord}
use Rattle.scr_combinatorics.specs.Back.{back}
use Rattle.scr_combinatorics.specs.Tidy.{Merging, tidy}

-- A stage: how many letters its words have, and the word of turns that each letter is; its goal; and how many letters
-- lead there from wherever the stage before may end.
pub record Stage (S T : Type 0) : Type 1 where
  pub letters : ℕ
  pub letter : ℕ → List T
  pub IsGoal : S → Type 0
  pub bound : ℕ

-- What the letter with a number makes of a state: nothing where there is no such letter, or one of its turns is barred.
unfoldable pub by_letters : {S T : Type 0} → (S → T → Option S) → ℕ → (ℕ → List T) → S → ℕ → Option S
by_letters after letters letter s n = if nat_lt n letters then play after s (letter n) else None

-- The word of a stage: the first word of its letters to its goal, by length and then by the letters' numbers. It is no
-- longer than the bound.
pub record IsStageWord {S T : Type 0} (after : S → T → Option S) (stage : Stage S T) (s : S) (word : List ℕ) : Type 0 where
  pub first : IsFirstWord (by_letters after stage.letters stage.letter) stage.IsGoal s word
  pub within : length word ≤ stage.bound

-- A stage has a word from this state.
abbrev pub HasStageWord : {S T : Type 0} → (S → T → Option S) → Stage S T → S → Type 0
HasStageWord after stage s = (word : List ℕ) × IsStageWord after stage s word

-- a word of letters as turns
abbrev pub spelled : {T : Type 0} → (ℕ → List T) → List ℕ → List T
spelled letter word = flat_map letter word

-- The words of some stages as turns, one after another, each from where the one before ended.
abbrev pub IsSolution : {S T : Type 0} → (S → T → Option S) → List (Stage S T) → S → List T → Type 0
IsSolution after [] s solution = solution ≡ []
IsSolution {S} {T} after (stage ∷ rest) s solution =
    (word : List ℕ) × (turns : List T) × (is : IsStageWord after stage s word) × IsSolution after rest is.first.leads.end turns
    × (solution ≡ spelled stage.letter word ++ turns)

-- The scramble that stages give: their solution, tidied and taken back.
pub record IsScrambleByStages {S T : Type 0} (after : S → T → Option S) (opposite : T → T) (m : Merging T)
    (some : List (Stage S T)) (s : S) (scramble : List T) : Type 0 where
  pub solution : List T
  pub is : IsSolution after some s solution
  pub taken_back : scramble ≡ back opposite (tidy m solution)
