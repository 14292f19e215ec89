-- Words that are walked down a table, as scrambles.
use Rattle.std.proofs.Common.{◌≡◌, ℕ, ◌<◌, List, [], ◌∷◌, map, refl, subst}
use Rattle.std.specs.Prelude.{All}
use Rattle.std.proofs.lemmas.List.Elements.{All-nil, All-cons}
use Rattle.scr_combinatorics.specs.Back.{back}
use Rattle.scr_combinatorics.specs.FirstWord.{LeadsTo, IsFirstWord}
use Rattle.scr_combinatorics.proofs.FirstWordLaws.{LeadsTo-parts}
use Rattle.scr_positions.specs.Coordinates.{Coordinate, moved, IsGoal}
use Rattle.scr_table.proofs.StepLaws.{moved-turn}
use Rattle.scr_small.specs.NumberedPuzzles.{NumberedPuzzle, state_coordinate, IsScrambleOf}
use Rattle.scr_small.specs.LawfulPuzzles.{IsNumberedPuzzle}
use Rattle.scr_small.proofs.PuzzleLaws.{finds_the_same}

-- a word that is defined is of the coordinate's turns
pub All-turns : (c : Coordinate) (p : ℕ) (w : List ℕ) → LeadsTo (moved c) (IsGoal c) p w → All (λ t. t < c.turns) w
All-turns c p [] l = All-nil (λ t. t < c.turns)
All-turns c p (t ∷ w) l =
    let parts = LeadsTo-parts (moved c) (IsGoal c) p t w l in
    All-cons (λ t. t < c.turns) t w (moved-turn c p t parts.0 parts.1).0 (All-turns c parts.0 w parts.2)

-- the first word from a state's position is the first that solves the state
pub IsScrambleOf-walked : {S T : Type 0} (p : NumberedPuzzle S T) → IsNumberedPuzzle p → (s : S) → p.numbered.IsValid s
    → (i : ℕ) → i ≡ p.numbered.number_of s → (w : List ℕ)
    → IsFirstWord (moved (state_coordinate p)) (IsGoal (state_coordinate p)) i w
    → IsScrambleOf p s (back p.opposite (map p.letter_at w))
IsScrambleOf-walked p l s valid i here w first =
    let P : ℕ → Type 0 = λ k. IsFirstWord (moved (state_coordinate p)) (IsGoal (state_coordinate p)) k w in
    record {
      solution = w;
      first = ((finds_the_same p l).first_words s w valid).1 (subst P here first);
      taken_back = refl;
    }
