-- What one table says of a numbered puzzle: its valid states are those that turns reach, what each needs, and its
-- scramble. No puzzle stands here.
use Rattle.std.proofs.Common.{◌≡◌, ℕ, suc, ◌≤◌, IsTrue, List, [], ◌∷◌, map, length, get_or, inl, inr, Option, Some, None, refl, sym, ap, ◌∙◌, subst, arith}
use Rattle.std.specs.Prelude.{nat_le, ◌↔◌, option_and_then}
use Rattle.std.proofs.lemmas.Bool.{leb-true, le-leb, cases_lt}
use Rattle.std.proofs.lemmas.List.{length-map, length-reverse}
use Rattle.scr_combinatorics.specs.Play.{play}
use Rattle.scr_combinatorics.specs.Back.{back}
use Rattle.scr_combinatorics.specs.Reach.{IsReached, Needs}
use Rattle.scr_combinatorics.specs.FirstWord.{LeadsTo, IsDistance}
use Rattle.scr_combinatorics.proofs.PlayLaws.{play-empty, play-first, play-parts, IsReached-keeps}
use Rattle.scr_combinatorics.proofs.FirstWordLaws.{IsDistance-unique, IsDistance-first, IsFirstWord-unique}
use Rattle.scr_positions.specs.Coordinates.{StaysBelow}
use Rattle.scr_positions.specs.SearchSpaces.{SearchSpace, positions, Follows, FindsTheSame}
use Rattle.scr_positions.proofs.IndexLaws.{Follows-numbered, StaysBelow-numbered}
use Rattle.scr_positions.proofs.SearchLaws.{FindsTheSame-follows}
use Rattle.scr_table.specs.Distances.{Distances, Measures}
use Rattle.scr_orbit.proofs.Minima.{count_once}
use Rattle.scr_table.proofs.FoundWords.{first_word}
use Rattle.scr_small.specs.NumberedPuzzles.{NumberedPuzzle, numbered_as_puzzle, after_number, state_coordinate, IsFirstSolution, IsScrambleOf}
use Rattle.scr_small.specs.LawfulPuzzles.{IsNumberedPuzzle}

-- what is so where a number is no less, is so where the test of it passes
pub tested_by : {P : Type 0} (least d : ℕ) → (least ≤ d) ↔ P → IsTrue (nat_le least d) ↔ P
tested_by least d iff = (λ e. iff.0 (leb-true least d e), λ h. le-leb least d (iff.1 h))

module _ {S T : Type 0} (p : NumberedPuzzle S T) (l : IsNumberedPuzzle p) where
  -- what a search sees of the puzzle
  abbrev pub state_space : SearchSpace S
  state_space = record { IsValid = p.numbered.IsValid; after = after_number p; IsGoal = λ s. s ≡ p.solved }

  -- ---- the states follow the coordinate of their numbers

  pub Follows-states : Follows state_space (positions (state_coordinate p)) p.numbered.number_of
  Follows-states =
      Follows-numbered p.numbered l.numbering.one_to_one p.turns (after_number p) p.solved l.solved
      (λ s r n h e. l.kept s r (p.letter_at n) h e) l.no_more

  pub finds_the_same : FindsTheSame state_space (positions (state_coordinate p)) p.numbered.number_of
  finds_the_same = FindsTheSame-follows state_space (positions (state_coordinate p)) p.numbered.number_of Follows-states

  pub StaysBelow-states : StaysBelow (state_coordinate p)
  StaysBelow-states =
      StaysBelow-numbered p.numbered l.numbering.one_to_one p.turns (after_number p) p.solved l.solved
      (λ s r n h e. l.kept s r (p.letter_at n) h e) l.no_more

  -- ---- words of numbers and words of letters

  same_rest : (o : Option S) (v : List T) (w : List ℕ) → ((r : S) → play p.after r v ≡ play (after_number p) r w)
      → option_and_then (λ r. play p.after r v) o ≡ option_and_then (λ r. play (after_number p) r w) o
  same_rest None v w h = refl
  same_rest (Some r) v w h = h r

  pub play-letters : (s : S) (w : List ℕ) → play p.after s (map p.letter_at w) ≡ play (after_number p) s w
  unfolding play
  play-letters s [] = refl
  play-letters s (n ∷ w) = same_rest (p.after s (p.letter_at n)) (map p.letter_at w) w (λ r. play-letters r w)

  -- a word of letters that is defined is one of numbers
  pub numbered_word : (s r : S) (v : List T) → play p.after s v ≡ Some r
      → (w : List ℕ) × (play (after_number p) s w ≡ Some r) × (length w ≡ length v)
  numbered_word s r [] e = ([], play-empty (after_number p) s ∙ sym (play-empty p.after s) ∙ e, refl)
  numbered_word s r (t ∷ v) e =
      let parts = play-parts p.after s r t v e in
      let number = l.numbers s parts.0 t parts.1 in
      let rest = numbered_word parts.0 r v parts.2 in (
        number.0 ∷ rest.0,
        play-first (after_number p) s parts.0 number.0 rest.0 (ap (p.after s) number.2 ∙ parts.1) ∙ rest.1,
        ap suc rest.2,
      )

  -- what turns reach is valid
  pub IsValid-reached : (s : S) → IsReached (numbered_as_puzzle p) s → p.numbered.IsValid s
  IsValid-reached s h =
      IsReached-keeps (numbered_as_puzzle p) p.numbered.IsValid (λ r e. subst p.numbered.IsValid (sym e) l.solved) l.kept s h

  -- a word that solves a state, taken back, leads to it from solved
  pub play-scramble : (s : S) (w : List ℕ) → p.numbered.IsValid s → LeadsTo (after_number p) (λ r. r ≡ p.solved) s w
      → play p.after p.solved (back p.opposite (map p.letter_at w)) ≡ Some s
  play-scramble s w h leads =
      ap (λ r. play p.after r (back p.opposite (map p.letter_at w))) (sym leads.goal)
      ∙ l.taken_back s leads.end (map p.letter_at w) h (play-letters s w ∙ leads.played)

  -- a scramble leads from solved to the state
  pub play-scrambled : (s : S) (turns : List T) → p.numbered.IsValid s → IsScrambleOf p s turns
      → play p.after p.solved turns ≡ Some s
  play-scrambled s turns h scramble =
      ap (play p.after p.solved) scramble.taken_back ∙ play-scramble s scramble.solution h scramble.first.leads

  -- a state has one scramble at most
  pub IsScrambleOf-unique : (s : S) (some other : List T) → IsScrambleOf p s some → IsScrambleOf p s other
      → some ≡ other
  IsScrambleOf-unique s some other a b =
      a.taken_back
      ∙ ap (λ w. back p.opposite (map p.letter_at w))
      (IsFirstWord-unique (after_number p) (λ r. r ≡ p.solved) s a.solution b.solution a.first b.first)
      ∙ sym b.taken_back

  -- ---- what a table says that measures the coordinate

  module _ (table : Distances) (m : Measures (state_coordinate p) table) where
    abbrev pub distance_of : S → ℕ
    distance_of s = get_or table.distances (p.numbered.number_of s) 0

    -- each valid state has a first word to solved
    pub first_solution : (s : S) → p.numbered.IsValid s → (w : List ℕ) × IsFirstSolution p s w
    first_solution s h =
        let found = first_word (state_coordinate p) table m (p.numbered.number_of s) (l.numbering.one_to_one.below s h) in
        (found.0, (finds_the_same.first_words s found.0 h).1 found.1)

    pub IsDistance-state : (s : S) → p.numbered.IsValid s
        → IsDistance (after_number p) (λ r. r ≡ p.solved) s (distance_of s)
    IsDistance-state s h =
        (finds_the_same.distances s (distance_of s) h).1 (m.exact (p.numbered.number_of s) (l.numbering.one_to_one.below s h))

    -- as long as the state's distance
    pub length-solution : (s : S) (w : List ℕ) → p.numbered.IsValid s → IsFirstSolution p s w → length w ≡ distance_of s
    length-solution s w h first =
        IsDistance-unique (after_number p) (λ r. r ≡ p.solved) s (length w) (distance_of s)
        (IsDistance-first (after_number p) (λ r. r ≡ p.solved) s w first) (IsDistance-state s h)

    -- the valid states are those that turns reach
    pub IsReached-iff : (s : S) → p.numbered.IsValid s ↔ IsReached (numbered_as_puzzle p) s
    IsReached-iff s = (
      λ h.
          let word = first_solution s h in
          (back p.opposite (map p.letter_at word.0), p.solved, refl, play-scramble s word.0 h word.1.leads),
      IsValid-reached s,
    )

    -- a state needs so many turns exactly where its distance is no less
    pub Needs-iff : (s : S) (least : ℕ) → p.numbered.IsValid s → (least ≤ distance_of s) ↔ Needs (numbered_as_puzzle p) s least
    Needs-iff s least h = (
      λ le v end few played solved.
          let word = numbered_word s end v played in
          omega (arith, count_once v, word.2, (IsDistance-state s h).least word.0 (record { end = end; played = word.1; goal = solved })),
      λ needs.
          let word = first_solution s h in
          let long = length-solution s word.0 h word.1 in
          elim (cases_lt (distance_of s) least) [
            | inl less ↦
                absurd (needs (map p.letter_at word.0) word.1.leads.end
                (omega (arith, count_once (map p.letter_at word.0), length-map word.0 p.letter_at, long)) (play-letters s word.0 ∙ word.1.leads.played)
                word.1.leads.goal)
            | inr le ↦ le
          ],
    )

    -- and so says the test of the table's entry
    pub tested-iff : (s : S) (least : ℕ) → p.numbered.IsValid s
        → IsTrue (nat_le least (distance_of s)) ↔ Needs (numbered_as_puzzle p) s least
    tested-iff s least h = tested_by least (distance_of s) (Needs-iff s least h)

    -- the scramble of a valid state has as many turns as its distance
    pub length-scramble : (s : S) (turns : List T) → p.numbered.IsValid s → IsScrambleOf p s turns
        → length turns ≡ distance_of s
    length-scramble s turns h scramble =
        ap length scramble.taken_back ∙ length-reverse (map p.opposite (map p.letter_at scramble.solution))
        ∙ length-map (map p.letter_at scramble.solution) p.opposite ∙ length-map scramble.solution p.letter_at
        ∙ length-solution s scramble.solution h scramble.first

    -- and each valid state has one
    pub scrambled : (s : S) → p.numbered.IsValid s
        → (turns : List T) × IsScrambleOf p s turns × (length turns ≡ distance_of s) × (play p.after p.solved turns ≡ Some s)
    scrambled s h =
        let word = first_solution s h in
        let turns = back p.opposite (map p.letter_at word.0) in
        let scramble : IsScrambleOf p s turns = record { solution = word.0; first = word.1; taken_back = refl } in
        (turns, scramble, length-scramble s turns h scramble, play-scrambled s turns h scramble)
