-- The words to the square shape: what tells them, and that a search by the index finds them in the order of words.
use Rattle.std.proofs.Common.{◌≡◌, ℕ, ◌<◌, Bool, false, IsTrue, List, Option, Some, refl, ap, ◌∙◌, arith, ◌≤◌, length, take, lit≤}
use Rattle.std.specs.Prelude.{◌↔◌, All, Contains, slice_get}
use Rattle.std.specs.Option.{option_map_or}
use Rattle.std.proofs.lemmas.Option.{same_Some}
use Rattle.scr_combinatorics.specs.FirstWord.{LeadsTo, IsEarlier}
use Rattle.scr_combinatorics.specs.Play.{play}
use Rattle.scr_combinatorics.specs.Stages.{by_letters, spelled, IsStageWord}
use Rattle.scr_combinatorics.proofs.StageLaws.{play-spelled, All-letters}
use Rattle.scr_sq1.specs.Units.{Sq1State, IsSq1, sq1_after}
use Rattle.scr_sq1tables.specs.Stages.{squaring_letter, squaring_stage, shape_letter, shape_stage}
use Rattle.scr_sq1tables.specs.ShapeWords.{is_normal, is_squared, is_shape_word, shape_words}
use Rattle.scr_sq1tables.proofs.Indexed.{ends-iff, word-iff}
use Rattle.scr_sq1tables.proofs.ShapeStage.{IsEnding-squaring, Follows-shapes}
use Rattle.scr_sq1tables.proofs.PairingStage.{IsNormal-test}
use Rattle.scr_positions.specs.SearchSpaces.{positions}
use Rattle.scr_table.specs.Distances.{Distances}
use Rattle.scr_table.specs.Lines.{IsTableOf}
use Rattle.scr_table.proofs.StageLaws.{stage_word}
use Rattle.std.proofs.lemmas.List.Elements.{All-weaker, All-contains_itself, filter_agree}
use Rattle.std.specs.List.{AllPairs}
use Rattle.scr_positions.proofs.SearchLaws.{FindsTheSame-follows}
use Rattle.scr_sq1tables.specs.SearchTables.{shapes_table}
use Rattle.scr_sq1tables.specs.Tables.{shapes_coordinate, shapes_index, shapes_line}
use Rattle.scr_table.specs.Words.{leads_to_goal, words_to_goal}
use Rattle.scr_table.proofs.GoalWords.{LeadsTo-test, leads-LeadsTo}
use Rattle.scr_table.proofs.TriedWords.{same_truth}
use Rattle.scr_table.proofs.WordOrder.{IsEarlier-listed, Contains-listed, first-listed}

-- ---- tests

-- what passes a test is there
some_tested : {A : Type 0} (test : A → Bool) (o : Option A) → IsTrue (option_map_or test o false)
    → (a : A) × (o ≡ Some a) × IsTrue (test a)
some_tested test o h0 = grind arith

pub IsSquared-iff : (s : Sq1State) → IsTrue (is_squared s) ↔ shape_stage.IsGoal s
unfolding is_squared
IsSquared-iff s =
    let both = word-iff squaring_stage s IsEnding-squaring (λ n. option_map_or is_normal (play sq1_after s (squaring_letter n)) false)
    (λ k lt. ends-iff squaring_stage s k lt (λ o. option_map_or is_normal o false) refl (λ r e. IsNormal-test r)) in
    (both.1, both.0)

-- where letters of the first stage lead
abbrev after_shape_letter : Sq1State → ℕ → Option Sq1State
after_shape_letter = by_letters sq1_after 144 shape_letter

pub IsShapeWord-iff : (s : Sq1State) (word : List ℕ)
    → IsTrue (is_shape_word s word) ↔ LeadsTo (by_letters sq1_after 144 shape_letter) shape_stage.IsGoal s word
unfolding is_shape_word
IsShapeWord-iff s word = (
  λ t.
      let found = some_tested is_squared (play after_shape_letter s word) t in
      record { end = found.0; played = found.1; goal = (IsSquared-iff found.0).0 found.2 },
  λ l. ap (λ o. option_map_or is_squared o false) l.played ∙ (IsSquared-iff l.end).1 l.goal,
)

-- ---- shape words

-- where a shape word leads
module _ (s : Sq1State) (word : List ℕ) (t : IsTrue (is_shape_word s word)) where
  pub shape_word-leads : LeadsTo (by_letters sq1_after 144 shape_letter) shape_stage.IsGoal s word
  shape_word-leads = (IsShapeWord-iff s word).0 t

  pub play-shape_word : play sq1_after s (spelled shape_letter word) ≡ Some shape_word-leads.end
  play-shape_word = play-spelled sq1_after 144 shape_letter s shape_word-leads.end word shape_word-leads.played

  -- its letters are there
  pub All-shape_word : All (λ n. n < 144) word
  All-shape_word = All-letters sq1_after 144 shape_letter s shape_word-leads.end word shape_word-leads.played

  pub shape_word-goal : (r : Sq1State) → play sq1_after s (spelled shape_letter word) ≡ Some r → shape_stage.IsGoal r
  shape_word-goal r led = grind (arith, same_Some, shape_word-leads, play-shape_word)

-- ---- by the index

module _ (s : Sq1State) (valid : IsSq1 s) where
  leads-shape_word : (word : List ℕ) → leads_to_goal shapes_coordinate (shapes_index s) word ≡ is_shape_word s word
  leads-shape_word word =
      let i = shapes_index s in
      let finds = (FindsTheSame-follows shapes_table.space (positions shapes_coordinate) shapes_index Follows-shapes).words s word valid in
      grind (arith, same_truth, i, finds, LeadsTo-test, leads-LeadsTo, IsShapeWord-iff)

  -- the words that lead from the index to a goal
  pub words-by_index : words_to_goal shapes_coordinate (shapes_index s) 13 ≡ shape_words s
  unfolding words_to_goal shape_words
  words-by_index = grind (arith, filter_agree, leads-shape_word)

-- ---- the first of them

-- letters of the first stage have numbers below 144
shape_letters : (s : Sq1State) (word : List ℕ)
    → LeadsTo (by_letters sq1_after 144 shape_letter) shape_stage.IsGoal s word → All (λ n. n < 144) word
shape_letters s word l = All-letters sq1_after 144 shape_letter s l.end word l.played

pub IsStageWord-listed : (s : Sq1State) (word : List ℕ)
    → slice_get (shape_words s) 0 ≡ Some word ↔ IsStageWord sq1_after shape_stage s word
unfolding shape_words
IsStageWord-listed s word =
    let first =
    first-listed (by_letters sq1_after 144 shape_letter) shape_stage.IsGoal s 144 13 (is_shape_word s) (IsShapeWord-iff s) (shape_letters s) word in
    (λ e. let is = first.0 e in record { first = is.0; within = is.1 }, λ is. first.1 (is.first, is.within))

-- they are listed in order, and all of them
module _ (s : Sq1State) where
  pub IsEarlier-shape_words : AllPairs IsEarlier (shape_words s)
  unfolding shape_words
  IsEarlier-shape_words =
      IsEarlier-listed (by_letters sq1_after 144 shape_letter) shape_stage.IsGoal s 144 13 (is_shape_word s) (IsShapeWord-iff s) (shape_letters s)

  pub Contains-shape_words : (word : List ℕ)
      → Contains (shape_words s) word ↔ (length word ≤ 13) × IsTrue (is_shape_word s word)
  unfolding shape_words
  Contains-shape_words word =
      let tells = IsShapeWord-iff s word in
      let listed =
      Contains-listed (by_letters sq1_after 144 shape_letter) shape_stage.IsGoal s 144 13 (is_shape_word s) (IsShapeWord-iff s) (shape_letters s) word in
      (λ there. let is = listed.0 there in (is.0, tells.1 is.1), λ is. listed.1 (is.0, tells.0 is.1))

-- what is so of words that pass and are short is so of each
pub All-shape_words : (s : Sq1State) (P : List ℕ → Type 0)
    → ((word : List ℕ) → (length word ≤ 13) × IsTrue (is_shape_word s word) → P word) → All P (shape_words s)
All-shape_words s P each = grind (arith, All-weaker, Contains-shape_words, All-contains_itself)

first-taken : (n : ℕ) (xs : List (List ℕ)) → 1 ≤ n → slice_get (take n xs) 0 ≡ slice_get xs 0
first-taken n xs h0 = grind arith

-- where the table is built, there is a first one
pub first-shape_word : (shapes : Distances) → IsTableOf shapes_line shapes → (s : Sq1State) → IsSq1 s → (wanted : ℕ)
    → 1 ≤ wanted
    → (word : List ℕ) × IsStageWord sq1_after shape_stage s word × (slice_get (take wanted (shape_words s)) 0 ≡ Some word)
first-shape_word shapes built s valid wanted some =
    let found = stage_word sq1_after shape_stage IsSq1 shapes_line shapes_index Follows-shapes (lit≤ tt) shapes built s valid in
    (found.0, found.1, first-taken wanted (shape_words s) some ∙ (IsStageWord-listed s found.0).1 found.1)
