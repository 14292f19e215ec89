-- Solutions by stages: what they lead to, what they count for, and that a state has but one; the same of scrambles.
use Rattle.std.proofs.Common.{◌≡◌, ℕ, ◌+◌, ◌*◌, ◌<◌, ◌≤◌, Bool, true, false, cond, IsTrue, List, [], ◌∷◌, ◌++◌, length, Option, Some, None, refl, sym, ap, ◌∙◌, subst, arith}
use Rattle.std.specs.Prelude.{All, nat_lt}
use Rattle.std.proofs.Math.Nat.{suc-mul, mul-le-mul_right}
use Rattle.std.proofs.lemmas.Bool.{cond-true, lt-ltb, ltb-true}
use Rattle.std.proofs.lemmas.List.Elements.{All-nil, All-cons}
use Rattle.std.proofs.lemmas.Option.{same_Some}
use Rattle.scr_combinatorics.specs.Play.{play, count_in}
use Rattle.scr_combinatorics.specs.Back.{IsTakenBack}
use Rattle.scr_combinatorics.specs.Tidy.{Merging, IsKeptByTidy}
use Rattle.scr_combinatorics.specs.Stages.{Stage, by_letters, IsStageWord, HasStageWord, spelled, IsSolution, IsScrambleByStages}
use Rattle.scr_combinatorics.proofs.PlayLaws.{play-empty, play-parts, play-append, count_in-append}
use Rattle.scr_combinatorics.proofs.FirstWordLaws.{IsFirstWord-unique}

-- ---- words of letters

module _ {S T : Type 0} (after : S → T → Option S) (letters : ℕ) (letter : ℕ → List T) where
  -- a letter's number is below the count, and its word is played
  pub by_letters-parts : (s r : S) (n : ℕ) → by_letters after letters letter s n ≡ Some r
      → IsTrue (nat_lt n letters) × (play after s (letter n) ≡ Some r)
  unfolding by_letters
  by_letters-parts s r n e = guarded (nat_lt n letters) (play after s (letter n)) e
    where
      guarded : (b : Bool) (o : Option S) → (let p : Option S = cond b o None in p ≡ Some r) → IsTrue b × (o ≡ Some r)
      guarded true o e = (refl, e)
      guarded false o e = absurd (cc)

  -- and such a letter is played
  pub by_letters-played : (s : S) (n : ℕ) → n < letters → by_letters after letters letter s n ≡ play after s (letter n)
  unfolding by_letters
  by_letters-played s n lt = cond-true (nat_lt n letters) (play after s (letter n)) None (lt-ltb n letters lt)

  -- a word of letters is the word of their turns
  pub play-spelled : (s r : S) (w : List ℕ) → play (by_letters after letters letter) s w ≡ Some r
      → play after s (spelled letter w) ≡ Some r
  play-spelled s r [] e = play-empty after s ∙ sym (play-empty (by_letters after letters letter) s) ∙ e
  play-spelled s r (n ∷ w) e =
      let parts = play-parts (by_letters after letters letter) s r n w e in
      play-append after s parts.0 (letter n) (spelled letter w) (by_letters-parts s parts.0 n parts.1).1
      ∙ play-spelled parts.0 r w parts.2

  -- and its letters are there
  pub All-letters : (s r : S) (w : List ℕ) → play (by_letters after letters letter) s w ≡ Some r
      → All (λ n. n < letters) w
  All-letters s r [] e = All-nil (λ n. n < letters)
  All-letters s r (n ∷ w) e =
      let parts = play-parts (by_letters after letters letter) s r n w e in
      All-cons (λ k. k < letters) n w (ltb-true n letters (by_letters-parts s parts.0 n parts.1).0) (All-letters parts.0 r w parts.2)

-- ---- the word of a stage

module _ {S T : Type 0} (after : S → T → Option S) (stage : Stage S T) where
  -- the word is told by the state
  pub one_stage_word : (s : S) (v w : List ℕ) → IsStageWord after stage s v → IsStageWord after stage s w → v ≡ w
  one_stage_word s v w a b = grind (arith, IsFirstWord-unique)

  -- and so are the words and the ends from two states that are the same
  pub same_stage : (s r : S) (v w : List ℕ) → s ≡ r
      → (a : IsStageWord after stage s v) (b : IsStageWord after stage r w)
      → (v ≡ w) × (a.first.leads.end ≡ b.first.leads.end)
  same_stage s r v w e a b = grind (arith, one_stage_word, same_Some)

  -- played as turns it leads where it leads as a word of letters
  pub play-stage_word : (s : S) (w : List ℕ) (is : IsStageWord after stage s w)
      → play after s (spelled stage.letter w) ≡ Some is.first.leads.end
  play-stage_word s w is = grind (arith, play-spelled)

  -- where it leads, the goal holds
  pub stage_goal : (s r : S) (w : List ℕ) → IsStageWord after stage s w
      → play (by_letters after stage.letters stage.letter) s w ≡ Some r → stage.IsGoal r
  stage_goal s r w is played = grind (arith, same_Some)

  pub All-stage_word : (s : S) (w : List ℕ) → IsStageWord after stage s w → All (λ n. n < stage.letters) w
  All-stage_word s w is = All-letters after stage.letters stage.letter s is.first.leads.end w is.first.leads.played

-- ---- solutions over some stages

module _ {S T : Type 0} (after : S → T → Option S) where
  pub IsSolution-unique : (some : List (Stage S T)) (s : S) (v w : List T)
      → IsSolution after some s v → IsSolution after some s w → v ≡ w
  IsSolution-unique [] s v w a b = a ∙ sym b
  IsSolution-unique (stage ∷ rest) s v w a b =
      let same = same_stage after stage s s a.0 b.0 refl a.2 b.2 in
      let more : a.1 ≡ b.1 =
      IsSolution-unique rest b.2.first.leads.end a.1 b.1 (subst (λ r. IsSolution after rest r a.1) same.1 a.3) b.3 in
      a.4 ∙ ap (λ u. spelled stage.letter u ++ a.1) same.0 ∙ ap (λ us. spelled stage.letter b.0 ++ us) more ∙ sym b.4

  -- what holds at the end
  unfoldable pub last_goal : List (Stage S T) → (S → Type 0) → S → Type 0
  last_goal [] P = P
  last_goal (stage ∷ rest) P = last_goal rest stage.IsGoal

  -- a solution leads to where the last goal holds
  pub record Leads (some : List (Stage S T)) (P : S → Type 0) (s : S) (w : List T) : Type 0 where
    pub end : S
    pub played : play after s w ≡ Some end
    pub goal : last_goal some P end

  pub Leads-solution : (some : List (Stage S T)) (P : S → Type 0) (s : S) (w : List T) → P s → IsSolution after some s w
      → Leads some P s w
  unfolding last_goal
  Leads-solution [] P s w h a = record { end = s; played = ap (play after s) a ∙ play-empty after s; goal = h }
  Leads-solution (stage ∷ rest) P s w h a =
      let leads = a.2.first.leads in
      let more = Leads-solution rest stage.IsGoal leads.end a.1 leads.goal a.3 in
      record {
        end = more.end;
        played = ap (play after s) a.4
            ∙ play-append after s leads.end (spelled stage.letter a.0) a.1 (play-stage_word after stage s a.0 a.2)
            ∙ more.played;
        goal = more.goal;
      }

  -- a word of the first stage, and a solution from where it leads
  pub solution_step : (stage : Stage S T) (s r : S) (word : List ℕ) → IsStageWord after stage s word
      → play (by_letters after stage.letters stage.letter) s word ≡ Some r → (rest : List (Stage S T)) (turns : List T)
      → IsSolution after rest r turns → IsSolution after (stage ∷ rest) s (spelled stage.letter word ++ turns)
  solution_step stage s r word is played rest turns more =
      let ends : is.first.leads.end ≡ r = same_Some is.first.leads.end r (sym is.first.leads.played ∙ played) in
      (word, turns, is, subst (λ x. IsSolution after rest x turns) (sym ends) more, refl)

  -- there is a solution where the first stage has a word, and the others have a solution from where it leads
  pub next_solution : (stage : Stage S T) (rest : List (Stage S T)) (s : S) (found : HasStageWord after stage s)
      → (w : List T) × IsSolution after rest found.1.first.leads.end w
      → (w : List T) × IsSolution after (stage ∷ rest) s w
  next_solution stage rest s found more = (spelled stage.letter found.0 ++ more.0, (found.0, more.0, found.1, more.1, refl))

-- ---- how much a solution counts for

-- each letter of each stage counts for at most what stands at its stage
unfoldable pub CountsWithin : {S T : Type 0} → (T → ℕ) → List (Stage S T) → List ℕ → Type 0
CountsWithin counted [] each = Unit {0}
CountsWithin counted (stage ∷ rest) [] = ⊥
CountsWithin counted (stage ∷ rest) (most ∷ each) =
    ((n : ℕ) → count_in counted (stage.letter n) ≤ most) × CountsWithin counted rest each

-- so much at most, where words are as long as they may be
unfoldable pub bounds : {S T : Type 0} → List (Stage S T) → List ℕ → ℕ
bounds [] each = 0
bounds (stage ∷ rest) [] = 0
bounds (stage ∷ rest) (most ∷ each) = stage.bound * most + bounds rest each

pub count-spelled : {T : Type 0} (counted : T → ℕ) (letter : ℕ → List T) (most : ℕ)
    → ((n : ℕ) → count_in counted (letter n) ≤ most) → (w : List ℕ)
    → count_in counted (spelled letter w) ≤ length w * most
unfolding count_in
count-spelled counted letter most each [] = omega arith
count-spelled counted letter most each (n ∷ w) =
    grind (arith, count_in-append, suc-mul, count-spelled counted letter most each w)

pub count-solution : {S T : Type 0} (after : S → T → Option S) (counted : T → ℕ) (some : List (Stage S T)) (each : List ℕ) (s : S) (w : List T)
    → CountsWithin counted some each → IsSolution after some s w → count_in counted w ≤ bounds some each
unfolding bounds CountsWithin count_in
count-solution after counted [] each s w within a = omega (arith, ap (count_in counted) a)
count-solution after counted (stage ∷ rest) [] s w within a = absurd within
count-solution after counted (stage ∷ rest) (most ∷ each) s w within a =
    omega (
      arith,
      ap (count_in counted) a.4,
      count_in-append counted (spelled stage.letter a.0) a.1,
      count-spelled counted stage.letter most within.0 a.0,
      mul-le-mul_right most a.2.within,
      count-solution after counted rest each a.2.first.leads.end a.1 within.1 a.3,
    )

-- ---- scrambles

module _ {S T : Type 0} (after : S → T → Option S) (opposite : T → T) (m : Merging T) (some : List (Stage S T)) where
  pub one_scramble : (s : S) (v w : List T) → IsScrambleByStages after opposite m some s v
      → IsScrambleByStages after opposite m some s w → v ≡ w
  one_scramble s v w a b = grind (arith, IsSolution-unique)

  -- from where the solution leads a scramble leads to the state
  pub play-scramble : (IsValid : S → Type 0) → IsTakenBack after opposite IsValid → IsKeptByTidy after m IsValid
      → (s end : S) (w : List T) → IsValid s → (a : IsScrambleByStages after opposite m some s w)
      → play after s a.solution ≡ Some end → play after end w ≡ Some s
  play-scramble IsValid taken_back kept s end w valid a played = grind arith
