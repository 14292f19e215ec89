-- The test that tries all turns is exact.
use Rattle.std.proofs.Common.{◌≡◌, ℕ, zero, suc, ◌<◌, ◌≤◌, inl, inr, Bool, IsTrue, List, [], ◌∷◌, length, Option, Some, refl, sym, ap, ◌∙◌, arith}
use Rattle.std.specs.Prelude.{◌↔◌, ◌||◌, not}
use Rattle.std.specs.List.{list_any}
use Rattle.std.proofs.lemmas.Bool.{cases_lt, or_cases, false≢true}
use Rattle.std.proofs.lemmas.List.Folds.{list_any_at, Any-from_list_any}
use Rattle.scr_combinatorics.specs.Lists.{numbers_from}
use Rattle.scr_combinatorics.proofs.Picks.{numbers_from-at, length-numbers_from}
use Rattle.scr_combinatorics.specs.FirstWord.{LeadsTo}
use Rattle.scr_combinatorics.proofs.PlayLaws.{play-empty}
use Rattle.scr_combinatorics.proofs.FirstWordLaws.{IsGoal-empty, LeadsTo-cons, LeadsTo-parts}
use Rattle.scr_table.specs.TriedWords.{passes, leads_within, needs_test}

passed : {S : Type 0} (test : S → Bool) (o : Option S) → IsTrue (passes test o)
    → (r : S) × (o ≡ Some r) × IsTrue (test r)
passed test o h0 = grind arith

or_second : (a b : Bool) → IsTrue b → IsTrue (a || b)
or_second a b h0 = grind arith

or_first : (a b : Bool) → IsTrue a → IsTrue (a || b)
or_first a b h0 = grind arith

none_found : (b : Bool) → (IsTrue b → ⊥) → IsTrue (not b)
none_found b h0 = grind arith

any_number : (p : ℕ → Bool) (n t : ℕ) → t < n → IsTrue (p t) → IsTrue (list_any p (numbers_from 0 n))
any_number p n t lt passes_it =
    list_any_at p (numbers_from 0 n) t 0 (omega (arith, lt, length-numbers_from 0 n))
    (ap p {y = t} (omega (arith, numbers_from-at 0 n t lt)) ∙ passes_it)

number_of_any : (p : ℕ → Bool) (n : ℕ) → IsTrue (list_any p (numbers_from 0 n)) → (t : ℕ) × IsTrue (p t)
number_of_any p n any = let found = Any-from_list_any p (numbers_from 0 n) any in (found.1, found.4)

module _ {S : Type 0} (turns : ℕ) (after : S → ℕ → Option S) (is_solved : S → Bool) where
  abbrev IsSolved : S → Type 0
  IsSolved s = IsTrue (is_solved s)

  -- a turn of a number leads on to solved
  abbrev tries : ℕ → S → ℕ → Bool
  tries fewer s t = passes (leads_within turns after is_solved fewer) (after s t)

  here : (n : ℕ) (s : S) → IsSolved s → (w : List ℕ) × LeadsTo after IsSolved s w × (length w ≤ n)
  here n s t = ([], record { end = s; played = play-empty after s; goal = t }, omega arith)

  word-leads : (n : ℕ) (s : S) → IsTrue (leads_within turns after is_solved n s)
      → (w : List ℕ) × LeadsTo after IsSolved s w × (length w ≤ n)
  unfolding leads_within
  word-leads zero s t = here 0 s t
  word-leads (suc n) s t =
      elim (or_cases (is_solved s) (list_any (tries n s) (numbers_from 0 turns)) t) [
        | inl solved ↦ here (suc n) s solved
        | inr later ↦
            let found = number_of_any (tries n s) turns later in
            let made = passed (leads_within turns after is_solved n) (after s found.0) found.1 in
            let rest = word-leads n made.0 made.2 in
            (found.0 ∷ rest.0, LeadsTo-cons after IsSolved s made.0 found.0 rest.0 made.1 rest.1, omega (arith, rest.2))
      ]

  module _ (below : (s r : S) (t : ℕ) → after s t ≡ Some r → t < turns) where
    leads-word : (n : ℕ) (s : S) (w : List ℕ) → LeadsTo after IsSolved s w → length w ≤ n
        → IsTrue (leads_within turns after is_solved n s)
    unfolding leads_within
    leads-word zero s [] l le = IsGoal-empty after IsSolved s l
    leads-word zero s (t ∷ w) l le = absurd (omega arith)
    leads-word (suc n) s [] l le =
        or_first (is_solved s) (list_any (tries n s) (numbers_from 0 turns)) (IsGoal-empty after IsSolved s l)
    leads-word (suc n) s (t ∷ w) l le =
        let parts = LeadsTo-parts after IsSolved s t w l in
        let rest = leads-word n parts.0 w parts.2 (omega arith) in
        or_second (is_solved s) (list_any (tries n s) (numbers_from 0 turns))
        (any_number (tries n s) turns t (below s parts.0 t parts.1) (ap (passes (leads_within turns after is_solved n)) parts.1 ∙ rest))

    -- It is so exactly where each word that leads to solved has as many.
    pub needs_test-iff : (s : S) (least : ℕ) → IsTrue (needs_test turns after is_solved s least)
        ↔ ((w : List ℕ) → LeadsTo after (λ r. IsTrue (is_solved r)) s w → least ≤ length w)
    unfolding needs_test
    needs_test-iff s zero = (λ t w l. omega arith, λ needs. refl)
    needs_test-iff s (suc fewer) = (
      λ t w l. elim (cases_lt (length w) (suc fewer)) [
        | inl short ↦ absurd (false≢true (sym (ap not (leads-word fewer s w l (omega arith))) ∙ t))
        | inr le ↦ le
      ],
      λ needs. none_found (leads_within turns after is_solved fewer s) (λ t.
          let word = word-leads fewer s t in
          omega (arith, word.2, needs word.0 word.1)),
    )

-- two truths that hold of the same are the same
pub same_truth : (P : Type 0) (a b : Bool) → IsTrue a ↔ P → IsTrue b ↔ P → a ≡ b
same_truth P a b h0 h1 = grind arith
