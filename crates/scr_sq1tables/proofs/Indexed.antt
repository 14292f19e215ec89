-- States by an index: where words do the same to the indexes of states that have one index, a search finds the same on
-- the indexes as on the states.
use Rattle.std.proofs.Common.{◌≡◌, ℕ, ◌+◌, ◌<◌, Bool, true, false, IsTrue, inl, inr, cond, List, take, Option, Some, None, refl, sym, ap, ◌∙◌, subst, arith, eq-eqb, eqb-true, ltb-true}
use Rattle.std.specs.Prelude.{◌↔◌, nat_lt, slice_index_or}
use Rattle.std.specs.List.{list_any}
use Rattle.std.specs.Option.{option_map}
use Rattle.std.proofs.lemmas.Bool.{false≢true}
use Rattle.std.proofs.lemmas.List.{get_or_default}
use Rattle.std.proofs.lemmas.List.Folds.{list_any_at, list_any_more, Any-from_list_any}
use Rattle.std.proofs.lemmas.Option.{same_Some}
use Rattle.scr_combinatorics.specs.Lists.{numbers_from}
use Rattle.scr_combinatorics.specs.Numbered.{Numbered}
use Rattle.scr_combinatorics.specs.Play.{play}
use Rattle.scr_combinatorics.specs.Stages.{Stage, by_letters, HasStageWord}
use Rattle.scr_combinatorics.proofs.OneLetter.{Ends, IsEnding, ending_word, some_letter}
use Rattle.scr_combinatorics.proofs.Picks.{numbers_from-at, length-numbers_from}
use Rattle.scr_combinatorics.proofs.StageLaws.{by_letters-parts}
use Rattle.scr_positions.specs.Coordinates.{StaysBelow}
use Rattle.scr_positions.specs.SearchSpaces.{positions, Follows}
use Rattle.scr_positions.proofs.IndexLaws.{StaysBelow-indexed}
use Rattle.scr_notation.specs.declared.turn.Turn.{Turn}
use Rattle.scr_table.proofs.FoundWords.{least_below}
use Rattle.scr_sq1.specs.Units.{Sq1State, solved_sq1, sq1_after}
use Rattle.scr_sq1tables.specs.Tables.{has_number, lettered_coordinate}
use Rattle.scr_sq1tables.proofs.Renamed.{map_where}

-- ---- tests that some number below another passes, tried one after another

module _ (test : ℕ → Bool) (n : ℕ) where
  number-at : (k : ℕ) → k < n → slice_index_or (numbers_from 0 n) k 0 ≡ k
  number-at k lt = omega (arith, numbers_from-at 0 n k lt)

  pub none-more : (k : ℕ) → k < n → list_any test (take k (numbers_from 0 n)) ≡ false → test k ≡ false
      → list_any test (take (k + 1) (numbers_from 0 n)) ≡ false
  none-more k lt before here =
      cc (list_any_more test (numbers_from 0 n) k 0 (omega (arith, lt, length-numbers_from 0 n)), number-at k lt)

  pub some-one : (k : ℕ) → k < n → IsTrue (test k) → list_any test (numbers_from 0 n) ≡ true
  some-one k lt passes =
      list_any_at test (numbers_from 0 n) k 0 (omega (arith, lt, length-numbers_from 0 n)) (ap test (number-at k lt) ∙ passes)

  one-below : IsTrue (list_any test (numbers_from 0 n)) → (k : ℕ) × (k < n) × IsTrue (test k)
  one-below t =
      let any = Any-from_list_any test (numbers_from 0 n) t in
      grind (arith, length-numbers_from 0 n, number-at, get_or_default (numbers_from 0 n) any.0 0 any.1 any.2)

-- ---- stages of one letter at most

module _ (stage : Stage Sq1State Turn) (s : Sq1State) where
  -- Where a letter leads, if it leads somewhere, passes a test that tells the goal.
  pub ends-iff : (k : ℕ) → k < stage.letters → (pass : Option Sq1State → Bool) → pass None ≡ false
      → ((r : Sq1State) → play sq1_after s (stage.letter k) ≡ Some r → IsTrue (pass (Some r)) ↔ stage.IsGoal r)
      → IsTrue (pass (play sq1_after s (stage.letter k))) ↔ ((r : Sq1State) × Ends sq1_after stage s k r)
  ends-iff k lt pass none some = at_end (play sq1_after s (stage.letter k)) refl
    where
      at_end : (o : Option Sq1State) → play sq1_after s (stage.letter k) ≡ o
          → IsTrue (pass o) ↔ ((r : Sq1State) × Ends sq1_after stage s k r)
      at_end None e = (λ t. absurd (false≢true (sym none ∙ t)), λ found. let led = found.1.played in absurd (cc))
      at_end (Some r) e = (
        λ t. (r, record { below = lt; played = e; goal = (some r e).0 t }),
        λ found. (some r e).1 (subst stage.IsGoal (same_Some found.0 r (sym found.1.played ∙ e)) found.1.goal),
      )

  -- So the stage has a word where some letter passes.
  pub word-iff : IsEnding sq1_after stage → (test : ℕ → Bool)
      → ((k : ℕ) → k < stage.letters → IsTrue (test k) ↔ ((r : Sq1State) × Ends sq1_after stage s k r))
      → HasStageWord sq1_after stage s ↔ IsTrue (list_any test (numbers_from 0 stage.letters))
  word-iff ending test tells = (
    λ found.
        let some = some_letter sq1_after stage ending s found in
        some-one test stage.letters some.0 some.2.below ((tells some.0 some.2.below).1 (some.1, some.2)),
    λ t. elim (least_below test stage.letters) [
      | inl least ↦
          let ends = (tells least.0 least.1).0 least.2 in
          let word = ending_word sq1_after stage ending s ends.0 least.0 ends.1
          (λ k r lt e. false≢true (sym (least.3 k lt) ∙ (tells k e.below).1 (r, e))) in
          (word.0, word.1)
      | inr none ↦ let one = one-below test stage.letters t in absurd (false≢true (sym (none one.0 one.1) ∙ one.2))
    ],
  )

-- ---- states by an index

-- What holds of states by an index: each index below the count is that of a valid state; words do the same to the
-- indexes of valid states that have one index; a stage's letters keep states valid; and where a letter of the next
-- stage leads, that one's goal is to have the index of the solved state.
pub record IsIndex (IsValid : Sq1State → Type 0) (count : ℕ) (index_of : Sq1State → ℕ) (state_at : ℕ → Sq1State)
    (stage next : Stage Sq1State Turn) : Type 0 where
  pub valid : (i : ℕ) → i < count → IsValid (state_at i)
  pub again : (i : ℕ) → i < count → index_of (state_at i) ≡ i
  pub below : (s : Sq1State) → IsValid s → index_of s < count
  pub alike : (s r : Sq1State) (w : List Turn) → IsValid s → IsValid r → index_of s ≡ index_of r
      → option_map index_of (play sq1_after s w) ≡ option_map index_of (play sq1_after r w)
  pub kept : (s r : Sq1State) (n : ℕ) → IsValid s → n < stage.letters → play sq1_after s (stage.letter n) ≡ Some r
      → IsValid r
  pub ending : IsEnding sq1_after next
  pub ended : (s r : Sq1State) (n : ℕ) → IsValid s → n < next.letters → play sq1_after s (next.letter n) ≡ Some r
      → next.IsGoal r ↔ (index_of r ≡ index_of solved_sq1)

module _ {IsValid : Sq1State → Type 0} {count : ℕ} {index_of : Sq1State → ℕ} {state_at : ℕ → Sq1State} {stage next : Stage Sq1State Turn}
    (h : IsIndex IsValid count index_of state_at stage next) where
  abbrev lettered : Sq1State → ℕ → Option Sq1State
  lettered = by_letters sq1_after stage.letters stage.letter

  -- words from the state that stands for a state's index
  alike_at : (s : Sq1State) (w : List Turn) → IsValid s
      → option_map index_of (play sq1_after (state_at (index_of s)) w) ≡ option_map index_of (play sq1_after s w)
  alike_at s w v = grind arith

  kept : (s r : Sq1State) (n : ℕ) → IsValid s → lettered s n ≡ Some r → IsValid r
  kept s r n v e = grind (arith, by_letters-parts, ltb-true)

  abbrev numbered : Numbered Sq1State
  numbered = record { count = count; state_at = state_at; number_of = index_of; IsValid = IsValid }

  -- A search finds the same.
  pub Follows-index : Follows (record { IsValid = IsValid; after = lettered; IsGoal = HasStageWord sq1_after next })
      (positions (lettered_coordinate numbered stage next)) index_of
  unfolding by_letters
  Follows-index = record {
    kept = kept;
    valid = h.below;
    turned = λ s n v.
        let from : Sq1State = state_at (index_of s) in
        map_where index_of (nat_lt n stage.letters) (option_map index_of (cond (nat_lt n stage.letters) (play sq1_after from (stage.letter n)) None))
        (play sq1_after s (stage.letter n))
        (λ on. ap (λ b. option_map index_of (cond b (play sq1_after from (stage.letter n)) None)) on ∙ alike_at s (stage.letter n) v);
    goals = λ s v.
        let home : ℕ = index_of solved_sq1 in
        word-iff next s h.ending (λ k. has_number home (option_map index_of (play sq1_after (state_at (index_of s)) (next.letter k)))) (λ k lt.
        subst (λ o. IsTrue (has_number home o) ↔ ((r : Sq1State) × Ends sq1_after next s k r)) (sym (alike_at s (next.letter k) v))
        (ends-iff next s k lt (λ o. has_number home (option_map index_of o)) refl (λ r e. (
          λ t. (h.ended s r k v lt e).1 (eqb-true (index_of r) home t),
          λ goal. eq-eqb (index_of r) home ((h.ended s r k v lt e).0 goal),
        ))));
  }

  -- letters lead from indexes to indexes
  pub StaysBelow-index : StaysBelow (lettered_coordinate numbered stage next)
  StaysBelow-index = grind (arith, StaysBelow-indexed, kept)
