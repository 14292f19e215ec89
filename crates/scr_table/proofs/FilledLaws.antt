-- What is so of the entries of a table while it is built.
use Rattle.std.proofs.Common.{◌≡◌, ◌≢◌, ℕ, zero, suc, ◌+◌, ◌<◌, ◌≤◌, Bool, true, false, List, [], ◌∷◌, ◌⊎◌, inl, inr, length, get_or, Option, Some, None, min, refl, sym, ap, ◌∙◌, subst, arith}
use Rattle.std.specs.Prelude.{if◌then◌else◌, nat_eq}
use Rattle.std.proofs.Math.Bool.{Bool-set}
use Rattle.std.proofs.Math.Logic.{∥∥₁_elim, ∥∥₁_map}
use Rattle.std.proofs.lemmas.Bool.{cases_order, cases_lt, cases_eq, eqb-true, eqb-false, lt-ltb}
use Rattle.scr_positions.specs.Coordinates.{Coordinate, StaysBelow, moved, IsGoal, value_at}
use Rattle.scr_combinatorics.specs.FirstWord.{LeadsTo, IsDistance}
use Rattle.scr_combinatorics.proofs.FirstWordLaws.{LeadsTo-empty, IsGoal-empty, LeadsTo-cons, LeadsTo-parts, IsDistance-goal, IsGoal-distance}
use Rattle.scr_table.specs.Distances.{Measures, IsFirstGap}
use Rattle.scr_table.specs.declared.name.TableName.{TableName}
use Rattle.scr_table.specs.Filled.{IsKnown, AreKnown, AreMarked, Neighbours, IsLeastNeighbour, IsAgreed, IsNextEntry, next_entry}
use Rattle.scr_table.proofs.StepLaws.{moved-below}

module _ (c : Coordinate) where
  -- what is entered at a position by whether it is a goal is known of all words of no turn
  pub IsKnown-marked : (p : ℕ) (b : Bool) → c.is_goal p ≡ b → IsKnown c 0 p (if b then 0 else 255)
  IsKnown-marked p true e = record {
    found = λ _. IsDistance-goal (moved c) (IsGoal c) p e;
    left = λ same. absurd (omega arith);
  }
  IsKnown-marked p false e = record { found = λ other. absurd (other refl); left = λ _ w l. some_turn w l }
    where
      some_turn : (w : List ℕ) → LeadsTo (moved c) (IsGoal c) p w → 0 < length w
      some_turn [] l = let goal : c.is_goal p ≡ true = IsGoal-empty (moved c) (IsGoal c) p l in absurd (cc)
      some_turn (t ∷ w) l = omega arith

  -- a known entry is 0 exactly at a goal
  pub AreMarked-known : (level : ℕ) (entries : List ℕ) → AreKnown c level entries → AreMarked c entries
  AreMarked-known level entries h = record { positions = h.positions; goals = λ p lt. (is_goal p lt, is_zero p lt) }
    where
      is_goal : (p : ℕ) → p < c.count → get_or entries p 0 ≡ 0 → IsGoal c p
      is_goal p lt e =
          let P : ℕ → Type 0 = λ d. IsDistance (moved c) (IsGoal c) p d in
          IsGoal-distance (moved c) (IsGoal c) p (Bool-set (c.is_goal p) true)
          (subst P e ((h.each p lt).found (λ far. omega (arith, e, far))))

      is_zero : (p : ℕ) → p < c.count → IsGoal c p → get_or entries p 0 ≡ 0
      is_zero p lt goal =
          let here = LeadsTo-empty (moved c) (IsGoal c) p goal in
          elim (cases_eq (get_or entries p 0) 255) [
            | inl far ↦ absurd (omega (arith, (h.each p lt).left far [] here))
            | inr known ↦ omega (arith, ((h.each p lt).found known).least [] here)
          ]

  -- a distance that is known stays known
  pub IsKnown-found : (level next p entry : ℕ) → entry ≢ 255 → IsKnown c level p entry → IsKnown c next p entry
  IsKnown-found level next p entry other h = record { found = h.found; left = λ same. absurd (other same) }

  -- Entries up to a level that agree with those around them are the distances.
  module _ (below : StaysBelow c) (level : ℕ) (small : level < 255) (entries : List ℕ) (marked : AreMarked c entries)
      (each : (p : ℕ) → p < c.count → IsAgreed c level entries p) where
    word_from : (d p : ℕ) → p < c.count → get_or entries p 0 ≡ d → d ≢ 255
        → (w : List ℕ) × LeadsTo (moved c) (IsGoal c) p w × (length w ≡ d)
    word_from zero p lt e known = ([], LeadsTo-empty (moved c) (IsGoal c) p ((marked.goals p lt).0 e), refl)
    word_from (suc d) p lt e known =
        let (least, is, agrees) = each p lt in
        let one_less = agrees.known (λ same. known (sym e ∙ same)) (λ none. omega (arith, e, none)) in
        let (t, q, leads, entry) = is.some (λ same. omega (arith, one_less.0, one_less.1, same)) in
        let rest = word_from d q (moved-below c below p t q lt leads) (omega (arith, one_less.0, entry, e)) (λ same. omega (arith, one_less.1, e, same)) in
        (t ∷ rest.0, LeadsTo-cons (moved c) (IsGoal c) p q t rest.0 leads rest.1, omega (arith, rest.2))

    none_shorter : (w : List ℕ) (p : ℕ) → p < c.count → LeadsTo (moved c) (IsGoal c) p w
        → (get_or entries p 0 ≢ 255 → get_or entries p 0 ≤ length w) × (get_or entries p 0 ≡ 255 → level < length w)
    none_shorter [] p lt l =
        let goal : get_or entries p 0 ≡ 0 = (marked.goals p lt).1 (IsGoal-empty (moved c) (IsGoal c) p l) in
        (λ known. omega (arith, goal), λ unknown. absurd (omega (arith, goal, unknown)))
    none_shorter (t ∷ w) p lt l =
        let parts = LeadsTo-parts (moved c) (IsGoal c) p t w l in
        let q = parts.0 in
        let rest = none_shorter w q (moved-below c below p t q lt parts.1) parts.2 in
        let (least, is, agrees) = each p lt in
        let near = is.at_most t q parts.1 in (
          λ known.
              elim (cases_eq (get_or entries p 0) 0) [
                | inl goal ↦ omega (arith, goal)
                | inr other ↦
                    let one_less = agrees.known known other in
                    elim (cases_eq (get_or entries q 0) 255) [
                      | inl far ↦ omega (arith, one_less.1, rest.1 far)
                      | inr there ↦ omega (arith, one_less.0, near, rest.0 there)
                    ]
              ],
          λ unknown.
              elim (cases_eq (get_or entries q 0) 255) [
                | inl far ↦ omega (arith, rest.1 far)
                | inr there ↦ omega (arith, agrees.unknown unknown, near, rest.0 there)
              ],
        )

    pub AreKnown-agreed : AreKnown c level entries
    AreKnown-agreed = record {
      positions = marked.positions;
      each = λ p lt. record {
        found = λ known. record {
          reached = ∣ word_from (get_or entries p 0) p lt refl known ∣₁;
          least = λ w l. (none_shorter w p lt l).0 known;
        };
        left = λ unknown w l. (none_shorter w p lt l).1 unknown;
      };
    }

  -- One position of a level: what its neighbours' entries say, where all words of at most `level` turns are looked at.
  module _ (below : StaysBelow c) (level : ℕ) (small : level < 254) (entries : List ℕ) (p : ℕ) (lt : p < c.count)
      (each : (k : ℕ) → k < c.count → IsKnown c level k (get_or entries k 0)) where
    -- a neighbour whose entry is a distance gives a word of one turn more
    word_by : (d : ℕ) → d ≢ 255 → Neighbours c entries p d
        → ∥ ((w : List ℕ) × LeadsTo (moved c) (IsGoal c) p w × (length w ≡ d + 1)) ∥₁
    word_by d known (t, q, leads, entry) =
        let P : ℕ → Type 0 = λ e. IsKnown c level q e in
        let there = subst P entry (each q (moved-below c below p t q lt leads)) in
        ∥∥₁_map (there.found known).reached
        (λ w. (t ∷ w.0, LeadsTo-cons (moved c) (IsGoal c) p q t w.0 leads w.1, omega (arith, w.2)))

    -- a position that is not known yet, and that has a neighbour of this level, is one of the next
    pub IsKnown-reached : get_or entries p 0 ≡ 255 → Neighbours c entries p level → IsKnown c (level + 1) p (level + 1)
    IsKnown-reached unknown next = record {
      found = λ _. record {
        reached = word_by level (λ e. omega arith) next;
        least = λ w l. omega (arith, (each p lt).left unknown w l);
      };
      left = λ e. absurd (omega arith);
    }

    -- and one whose least neighbour is of another has no word of one turn more
    pub IsKnown-beyond : get_or entries p 0 ≡ 255 → (least : ℕ) → least ≢ level
        → ((t q : ℕ) → moved c p t ≡ Some q → least ≤ get_or entries q 0)
        → (least ≢ 255 → Neighbours c entries p least) → IsKnown c (level + 1) p 255
    IsKnown-beyond unknown least other at_most some =
        record { found = λ known. absurd (known refl); left = λ _ w l. longer w l }
      where
        -- no neighbour is lower than this level, or the position would be known
        none_lower : least < level → ⊥
        none_lower less =
            ∥∥₁_elim (word_by least (λ e. omega arith) (some (λ e. omega arith))) (hlevel)
            (λ w. omega (arith, (each p lt).left unknown w.0 w.1, w.2))

        -- what is known of where the first turn leads
        rest_long : (t q : ℕ) (w : List ℕ) → moved c p t ≡ Some q → LeadsTo (moved c) (IsGoal c) q w → (entry : ℕ)
            → get_or entries q 0 ≡ entry → IsKnown c level q entry → level < length w
        rest_long t q w leads l entry e h =
            elim (cases_order entry 255) [
              | inl same ↦ h.left same w l
              | inr apart ↦
                  let far : entry ≤ length w = (h.found (elim apart [ inl less ↦ λ s. omega arith | inr more ↦ λ s. omega arith ])).least w l in
                  let near = at_most t q leads in
                  elim (cases_order least level) [
                    | inl same ↦ absurd (other same)
                    | inr (inl less) ↦ absurd (none_lower less)
                    | inr (inr more) ↦ omega arith
                  ]
            ]

        longer : (w : List ℕ) → LeadsTo (moved c) (IsGoal c) p w → level + 1 < length w
        longer [] l = absurd (omega (arith, (each p lt).left unknown [] l))
        longer (t ∷ w) l =
            let parts = LeadsTo-parts (moved c) (IsGoal c) p t w l in
            let q = parts.0 in
            omega (arith, rest_long t q w parts.1 parts.2 (get_or entries q 0) refl (each q (moved-below c below p t q lt parts.1)))

-- an entry of the next level tells its position
pub IsKnown-next : (c : Coordinate) → StaysBelow c → (level : ℕ) → level < 254 → (entries : List ℕ)
    → AreKnown c level entries → (p next : ℕ) → p < c.count → IsNextEntry c level entries p next
    → IsKnown c (level + 1) p next
IsKnown-next c below level small entries known p next lt is = by_entry (cases_eq (get_or entries p 0) 255)
  where
    by_least : get_or entries p 0 ≡ 255 → (least : ℕ) → IsLeastNeighbour c entries p least
        → next ≡ next_entry level 255 least → (b : Bool) → nat_eq least level ≡ b → IsKnown c (level + 1) p next
    by_least unknown least near e true same =
        let here : next ≡ level + 1 = e ∙ ap (λ b. if b then level + 1 else 255) same in
        let equal : least ≡ level = eqb-true least level same in
        let P : ℕ → Type 0 = λ d. Neighbours c entries p d in
        rw here (IsKnown-reached c below level small entries p lt known.each unknown (subst P equal (near.some (λ far. omega (arith, far, equal)))))
    by_least unknown least near e false same =
        let here : next ≡ 255 = e ∙ ap (λ b. if b then level + 1 else 255) same in
        rw here (
        IsKnown-beyond c below level small entries p lt known.each unknown least (eqb-false least level same) near.at_most near.some
        )

    by_entry : (get_or entries p 0 ≡ 255) ⊎ (get_or entries p 0 ≢ 255) → IsKnown c (level + 1) p next
    by_entry (inl unknown) =
        let (least, near, e) = is.reached unknown in by_least unknown least near e (nat_eq least level) refl
    by_entry (inr there) =
        let here : next ≡ get_or entries p 0 = is.kept there in
        rw here (IsKnown-found c level (level + 1) p (get_or entries p 0) there (known.each p lt))

-- The least entry among those of some neighbours: those that the turns below one lead to.
pub record IsLeast (c : Coordinate) (entries : List ℕ) (p done least : ℕ) : Type 0 where
  pub at_most : (t q : ℕ) → t < done → moved c p t ≡ Some q → least ≤ get_or entries q 0
  pub some : least ≢ 255 → Neighbours c entries p least

module _ (c : Coordinate) (entries : List ℕ) (p turn least : ℕ) (h : IsLeast c entries p turn least) where
  -- one turn more, which is barred
  pub IsLeast-barred : moved c p turn ≡ None → IsLeast c entries p (turn + 1) least
  IsLeast-barred barred = record { at_most = λ t q lt e. by_turn t q lt e (cases_order t turn); some = h.some }
    where
      by_turn : (t q : ℕ) → t < turn + 1 → moved c p t ≡ Some q → (t ≡ turn) ⊎ ((t < turn) ⊎ (turn < t))
          → least ≤ get_or entries q 0
      by_turn t q lt e (inl same) = let other : moved c p t ≡ None = ap (moved c p) same ∙ barred in absurd (cc)
      by_turn t q lt e (inr (inl less)) = h.at_most t q less e
      by_turn t q lt e (inr (inr more)) = absurd (omega arith)

  -- and one that leads somewhere
  pub IsLeast-next : (next new : ℕ) → moved c p turn ≡ Some next → new ≡ min least (get_or entries next 0)
      → IsLeast c entries p (turn + 1) new
  IsLeast-next next new leads is = record {
    at_most = λ t q lt e. by_turn t q lt e (cases_order t turn);
    some = λ known. by_entry known (cases_lt (get_or entries next 0) least);
  }
    where
      by_turn : (t q : ℕ) → t < turn + 1 → moved c p t ≡ Some q → (t ≡ turn) ⊎ ((t < turn) ⊎ (turn < t))
          → new ≤ get_or entries q 0
      by_turn t q lt e (inl same) =
          let here : moved c p t ≡ Some next = ap (moved c p) same ∙ leads in
          let ends : q ≡ next = cc in
          omega (arith, ap (λ i. get_or entries i 0) ends)
      by_turn t q lt e (inr (inl less)) = omega (arith, h.at_most t q less e)
      by_turn t q lt e (inr (inr more)) = absurd (omega arith)

      by_entry : new ≢ 255 → (get_or entries next 0 < least) ⊎ (least ≤ get_or entries next 0)
          → Neighbours c entries p new
      by_entry known (inl less) = (turn, next, leads, omega arith)
      by_entry known (inr kept) =
          let same : least ≡ new = omega arith in
          let P : ℕ → Type 0 = λ e. Neighbours c entries p e in
          subst P same (h.some (λ e. known (sym same ∙ e)))

-- no turn yet
pub IsLeast-none : (c : Coordinate) (entries : List ℕ) (p : ℕ) → IsLeast c entries p 0 255
IsLeast-none c entries p = record { at_most = λ t q lt e. absurd (omega arith); some = λ known. absurd (known refl) }

-- the lower of a number and what a turn leads to
pub IsLeast-seen : (c : Coordinate) (entries : List ℕ) (p turn least new : ℕ) → turn < c.turns
    → new ≡ min least (value_at entries (c.after p turn)) → IsLeast c entries p turn least
    → IsLeast c entries p (turn + 1) new
IsLeast-seen c entries p turn least new lt is h = by_target (c.after p turn) refl
  where
    moves : moved c p turn ≡ c.after p turn
    moves = ap (λ b. if b then c.after p turn else None) (lt-ltb turn c.turns lt)

    by_target : (o : Option ℕ) → c.after p turn ≡ o → IsLeast c entries p (turn + 1) new
    by_target None e =
        let mark : new ≡ min least 255 = is ∙ ap (λ o. min least (value_at entries o)) e in
        let barred = IsLeast-barred c entries p turn least h (moves ∙ e) in
        let P : ℕ → Type 0 = λ entry. Neighbours c entries p entry in
        record {
          at_most = λ t q less leads. omega (arith, mark, barred.at_most t q less leads);
          some = λ known.
              let same : least ≡ new = omega (arith, mark, known) in
              subst P same (barred.some (λ none. known (sym same ∙ none)));
        }
    by_target (Some q) e =
        IsLeast-next c entries p turn least h q new (moves ∙ e) (is ∙ ap (λ o. min least (value_at entries o)) e)

-- The first entry above the bound is that of the first gap.
pub IsFirstGap-above : (c : Coordinate) (bound index : ℕ) (entries : List ℕ) → bound < 255 → AreKnown c bound entries
    → index < length entries → bound < get_or entries index 0 → ((p : ℕ) → p < index → get_or entries p 0 ≤ bound)
    → IsFirstGap c bound index
IsFirstGap-above c bound index entries small known inside above first = record {
  gap = record { position = at; none = λ w leads. by_entry w leads (cases_order (get_or entries index 0) 255) };
  none_before = λ earlier less gap.
      ∥∥₁_elim (word earlier less).reached (hlevel)
      (λ found. omega (arith, gap.none found.0 found.1, found.2, first earlier less));
}
  where
    at : index < c.count
    at = omega (arith, inside, known.positions)

    by_entry : (w : List ℕ) → LeadsTo (moved c) (IsGoal c) index w
        → (get_or entries index 0 ≡ 255) ⊎ ((get_or entries index 0 < 255) ⊎ (255 < get_or entries index 0))
        → bound < length w
    by_entry w leads (inl unknown) = (known.each index at).left unknown w leads
    by_entry w leads (inr apart) =
        let other : get_or entries index 0 ≢ 255 =
        elim apart [ inl less ↦ λ same. omega arith | inr more ↦ λ same. omega arith ] in
        omega (arith, above, ((known.each index at).found other).least w leads)

    -- below it each entry is a distance
    word : (earlier : ℕ) → earlier < index → IsDistance (moved c) (IsGoal c) earlier (get_or entries earlier 0)
    word earlier less =
        (known.each earlier (omega (arith, at))).found (λ same. omega (arith, first earlier less))

-- Entries that are known and within the bound are the table.
pub Measures-known : (c : Coordinate) (name : TableName) (bound : ℕ) (entries : List ℕ) → StaysBelow c → bound < 255
    → AreKnown c bound entries → ((p : ℕ) → get_or entries p 0 ≤ bound)
    → Measures c (record { name = name; bound = bound; distances = entries })
Measures-known c name bound entries stays small known within = record {
  positions = known.positions;
  stays_below = stays;
  exact = λ p lt. (known.each p lt).found (λ far. omega (arith, far, within p));
  within = λ p lt. within p;
}
