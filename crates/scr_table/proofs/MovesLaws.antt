-- Looking at all short words, but for those that go on idly.
use Rattle.std.proofs.Common.{◌≡◌, ℕ, ◌+◌, ◌<◌, List, [], ◌∷◌, ◌++◌, length, ◌⊎◌, inl, inr, Option, Some, None, true, false, ◌-◌, refl, sym, ap, ◌∙◌, subst, length-append, arith}
use Rattle.std.specs.Prelude.{if◌then◌else◌}
use borrow.Author.Tests.{lt-ltb}
use Rattle.std.proofs.lemmas.Bool.{cases_order, cases_lt}
use Rattle.scr_combinatorics.specs.Play.{count_in}
use Rattle.scr_combinatorics.specs.Reach.{Needs}
use Rattle.scr_combinatorics.specs.FirstWord.{LeadsTo}
use Rattle.scr_combinatorics.proofs.PlayLaws.{play-append}
use Rattle.scr_combinatorics.proofs.FirstWordLaws.{IsGoal-empty, LeadsTo-empty, LeadsTo-cons, LeadsTo-parts}
use Rattle.scr_table.specs.Moves.{MoveSet, after_move, move_puzzle, IsSolved, NeedsTurns, HasWordWithin, HasShorter, BeginsIdly, AreLeftOut}

module _ {S : Type 0} (m : MoveSet S) where
  -- a turn that leads somewhere is one of the puzzle's, and not refused
  pub turned-turn : (s r : S) (t : ℕ) → after_move m s t ≡ Some r → (t < m.count) × (m.after s t ≡ Some r)
  turned-turn s r t e = grind arith

  -- Of words of at most so many turns that lead to solved, those that begin with a turn below one are looked at: each
  -- can be made shorter, or goes on idly from the turn before.
  abbrev pub AreTried : S → Option ℕ → ℕ → ℕ → Type 0
  AreTried s before most done =
      (t : ℕ) (w : List ℕ) → t < done → LeadsTo (after_move m) (IsSolved m) s (t ∷ w) → length w < most
      → HasShorter m s (t ∷ w) ⊎ BeginsIdly m before (t ∷ w)

  -- two turns of which the second never helps are done by at most one
  HasShorter-idle : (s : S) (t : ℕ) (v : List ℕ) → BeginsIdly m (Some t) v
      → LeadsTo (after_move m) (IsSolved m) s (t ∷ v) → HasShorter m s (t ∷ v)
  HasShorter-idle s t v (u, x, same, idle) l =
      let P : List ℕ → Type 0 = λ w. LeadsTo (after_move m) (IsSolved m) s (t ∷ w) in
      let first = LeadsTo-parts (after_move m) (IsSolved m) s t (u ∷ x) (subst P same l) in
      let second = LeadsTo-parts (after_move m) (IsSolved m) first.0 u x first.2 in
      let short = idle s first.0 second.0 first.1 second.1 in
      let leads : LeadsTo (after_move m) (IsSolved m) s (short.0 ++ x) = grind (arith, play-append) in
      (short.0 ++ x, leads, simp length-append (omega (arith, short.1, ap length same)))

  -- a word whose rest can be made shorter, or goes on idly from its first turn, can be made shorter
  HasShorter-first : (s r : S) (t : ℕ) (v : List ℕ) → after_move m s t ≡ Some r
      → LeadsTo (after_move m) (IsSolved m) s (t ∷ v) → HasShorter m r v ⊎ BeginsIdly m (Some t) v
      → HasShorter m s (t ∷ v)
  HasShorter-first s r t v e l (inl (x, leads, less)) =
      (t ∷ x, LeadsTo-cons (after_move m) (IsSolved m) s r t x e leads, omega arith)
  HasShorter-first s r t v e l (inr idly) = HasShorter-idle s t v idly l

  module _ (s : S) (before : Option ℕ) (most turn : ℕ) (h : AreTried s before most turn) where
    tried_more : ((w : List ℕ) → LeadsTo (after_move m) (IsSolved m) s (turn ∷ w) → length w < most
        → HasShorter m s (turn ∷ w) ⊎ BeginsIdly m before (turn ∷ w)) → AreTried s before most (turn + 1)
    tried_more here t w lt l short = by_turn (cases_order t turn)
      where
        by_turn : (t ≡ turn) ⊎ ((t < turn) ⊎ (turn < t)) → HasShorter m s (t ∷ w) ⊎ BeginsIdly m before (t ∷ w)
        by_turn (inl same) =
            let P : ℕ → Type 0 = λ u. LeadsTo (after_move m) (IsSolved m) s (u ∷ w) in
            let Q : ℕ → Type 0 = λ u. HasShorter m s (u ∷ w) ⊎ BeginsIdly m before (u ∷ w) in
            subst Q (sym same) (here w (subst P same l) short)
        by_turn (inr (inl less)) = h t w less l short
        by_turn (inr (inr more)) = absurd (omega arith)

    -- one turn more, which never helps after the one before
    pub AreTried-idle : ((w : List ℕ) → BeginsIdly m before (turn ∷ w)) → AreTried s before most (turn + 1)
    AreTried-idle idle = tried_more (λ w l short. inr (idle w))

    -- which is refused
    pub AreTried-refused : m.after s turn ≡ None → AreTried s before most (turn + 1)
    AreTried-refused refused = tried_more (λ w l short. absurd (none w l))
      where
        none : (w : List ℕ) → LeadsTo (after_move m) (IsSolved m) s (turn ∷ w) → ⊥
        none w l =
            let parts = LeadsTo-parts (after_move m) (IsSolved m) s turn w l in
            let led = (turned-turn s parts.0 turn parts.1).1 in
            cc

    -- and from where it leads all words are looked at
    pub AreTried-looked : (next : S) → m.after s turn ≡ Some next → AreLeftOut m next (Some turn) (most - 1)
        → AreTried s before most (turn + 1)
    AreTried-looked next leads out = tried_more (λ w l short. inl (shorter w l short))
      where
        shorter : (w : List ℕ) → LeadsTo (after_move m) (IsSolved m) s (turn ∷ w) → length w < most
            → HasShorter m s (turn ∷ w)
        shorter w l short =
            let parts = LeadsTo-parts (after_move m) (IsSolved m) s turn w l in
            let led = (turned-turn s parts.0 turn parts.1).1 in
            let same : parts.0 ≡ next = cc in
            let P : S → Type 0 = λ r. LeadsTo (after_move m) (IsSolved m) r w in
            let Q : S → Type 0 = λ r. HasShorter m r w ⊎ BeginsIdly m (Some turn) w in
            HasShorter-first s parts.0 turn w parts.1 l (subst Q (sym same) (out w (subst P same parts.2) (omega arith)))

  -- a solved state is brought to solved by no turn
  pub HasWordWithin-solved : (s : S) (most : ℕ) → m.is_solved s ≡ true → HasWordWithin m s most
  HasWordWithin-solved s most e = ([], LeadsTo-empty (after_move m) (IsSolved m) s e, omega arith)

  -- and a state from which a turn leads to one that so many turns bring there, by one more
  pub HasWordWithin-next : (s next : S) (turn rest most : ℕ) → turn < m.count → m.after s turn ≡ Some next → rest < most
      → HasWordWithin m next rest → HasWordWithin m s most
  HasWordWithin-next s next turn rest most lt leads less (w, l, short) =
      (turn ∷ w, LeadsTo-cons (after_move m) (IsSolved m) s next turn w (turned_by s next turn lt leads) l, omega arith)
    where
      turned_by : (s r : S) (t : ℕ) → t < m.count → m.after s t ≡ Some r → after_move m s t ≡ Some r
      turned_by s r t lt e = ap (λ b. if b then m.after s t else None) (lt-ltb t m.count lt) ∙ e

  -- where the empty word doesn't lead to solved, all words are looked at once each turn is tried
  pub AreLeftOut-tried : (s : S) (before : Option ℕ) (most : ℕ) → m.is_solved s ≡ false → AreTried s before most m.count
      → AreLeftOut m s before most
  AreLeftOut-tried s before most unsolved tried [] l short = cc (IsGoal-empty (after_move m) (IsSolved m) s l)
  AreLeftOut-tried s before most unsolved tried (t ∷ w) l short = grind (arith, LeadsTo-parts, turned-turn)

  pub AreLeftOut-unsolved : (s : S) (before : Option ℕ) → m.is_solved s ≡ false → AreLeftOut m s before 0
  AreLeftOut-unsolved s before unsolved = AreLeftOut-tried s before 0 unsolved (λ t w lt l short. absurd (omega arith))

module _ {S : Type 0} (m : MoveSet S) where
  count_in-length : (w : List ℕ) → count_in (λ _. 1) w ≡ length w
  unfolding count_in
  count_in-length [] = refl
  count_in-length (t ∷ w) = omega (arith, count_in-length w)

  -- the minima are those of the puzzle whose turns each count for one
  pub Needs-turns : (s : S) (least : ℕ) → NeedsTurns m s least → Needs (move_puzzle m) s least
  Needs-turns s least h = grind (arith, count_in-length)

  pub NeedsTurns-needs : (s : S) (least : ℕ) → Needs (move_puzzle m) s least → NeedsTurns m s least
  NeedsTurns-needs s least h = λ w l.
      elim (cases_lt (length w) least) [
        | inl less ↦ absurd (h w l.end (omega (arith, count_in-length w)) l.played l.goal)
        | inr le ↦ le
      ]
