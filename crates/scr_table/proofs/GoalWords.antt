-- The words that lead to a goal, one after another.
use Rattle.std.proofs.Common.{◌≡◌, ℕ, zero, suc, ◌+◌, ◌-◌, ◌<◌, ◌≤◌, Bool, true, false, cond, List, [], ◌∷◌, ◌++◌, map, length, get_or, take, Option, Some, None, refl, sym, ap, ◌∙◌, subst, append_assoc, length-append, arith}
use Rattle.std.specs.Prelude.{All, Contains, filter, option_and_then}
use Rattle.std.specs.List.{flat_map}
use Rattle.std.specs.Option.{option_map_or}
use Rattle.std.proofs.Math.Bool.{Bool-set}
use Rattle.std.proofs.lemmas.Bool.{false≢true}
use Rattle.std.proofs.lemmas.List.{append-nil, length-take, take-append-le, take_all}
use Rattle.std.proofs.lemmas.List.Elements.{All-nil, All-cons, All-weaker, All-contains_itself}
use Rattle.scr_combinatorics.specs.Lists.{numbers_from}
use Rattle.scr_combinatorics.specs.FirstWord.{LeadsTo, IsDistance}
use Rattle.scr_combinatorics.specs.Play.{play}
use Rattle.scr_combinatorics.proofs.FirstWordLaws.{IsGoal-distance, LeadsTo-parts}
use Rattle.scr_positions.specs.Coordinates.{Coordinate, moved, IsGoal}
use Rattle.scr_table.specs.Distances.{Distances, Measures}
use Rattle.scr_combinatorics.specs.Words.{words_of, words_within}
use Rattle.scr_table.specs.Words.{leads_to_goal, words_to_goal, goal_words_behind}
use Rattle.scr_table.proofs.ListedWords.{IsListed-listed}
use Rattle.scr_table.proofs.StepLaws.{moved-turn, moved-below}
use Rattle.scr_table.proofs.WordLists.{filter-none, filter-flat_map, map-flat_map, flat_map-same, numbers_from-next, lengths_from}

-- ---- the first of some, as far as they are wanted

take-again : {X : Type 0} (n : ℕ) (xs ys : List X) → take n (take n xs ++ ys) ≡ take n (xs ++ ys)
take-again zero xs ys = refl
take-again (suc n) [] ys = refl
take-again (suc n) (x ∷ xs) ys = ap (λ zs. x ∷ zs) (take-again n xs ys)

module _ {X : Type 0} (wanted : ℕ) (all : List X) where
  -- Of all, as many as are wanted are those that are found and, behind them, the first of the others.
  pub record IsTaking (found others : List X) : Type 0 where
    pub same : take wanted (found ++ others) ≡ take wanted all
    pub few : length found ≤ wanted

  -- at the begin all are others
  pub IsTaking-begin : (found others : List X) → found ++ others ≡ all → length found ≤ wanted → IsTaking found others
  IsTaking-begin found others e few = record { same = ap (take wanted) e; few = few }

  -- others by the numbers up to an end, where as many as are wanted of the next number's are found
  module _ (f : ℕ → List X) (at end : ℕ) (found : List X) (lt : at < end) (h : IsTaking found (flat_map f (numbers_from at (end - at)))) where
    later : List X
    later = flat_map f (numbers_from (at + 1) (end - (at + 1)))

    next : take wanted (found ++ (f at ++ later)) ≡ take wanted all
    unfolding later
    next = ap (λ ns. take wanted (found ++ flat_map f ns)) (sym (numbers_from-next at end lt)) ∙ h.same

    pub IsTaking-next : (now : List X) → now ≡ take wanted (found ++ f at)
        → IsTaking now (flat_map f (numbers_from (at + 1) (end - (at + 1))))
    unfolding later next
    IsTaking-next now e = record {
      same = ap (λ zs. take wanted (zs ++ later)) e ∙ take-again wanted (found ++ f at) later
          ∙ ap (take wanted) (append_assoc found (f at) later) ∙ next;
      few = omega (arith, ap length e, length-take wanted (found ++ f at));
    }

    -- and where as many are found already
    pub IsTaking-full : wanted ≤ length found → IsTaking found (flat_map f (numbers_from (at + 1) (end - (at + 1))))
    IsTaking-full enough = IsTaking-next found (sym (take-append-le wanted found (f at) enough ∙ take_all wanted found h.few))

    -- or where it has none
    pub IsTaking-none : f at ≡ [] → IsTaking found (flat_map f (numbers_from (at + 1) (end - (at + 1))))
    unfolding later next
    IsTaking-none none = record { same = ap (λ zs. take wanted (found ++ (zs ++ later))) (sym none) ∙ next; few = h.few }

-- ---- where a word leads

module _ (c : Coordinate) where
  pub LeadsTo-test : (p : ℕ) (w : List ℕ) → leads_to_goal c p w ≡ true → LeadsTo (moved c) (IsGoal c) p w
  unfolding leads_to_goal
  LeadsTo-test p w leads = by (play (moved c) p w) refl leads
    where
      by : (o : Option ℕ) → play (moved c) p w ≡ o → option_map_or c.is_goal o false ≡ true
          → LeadsTo (moved c) (IsGoal c) p w
      by None is passes = absurd (false≢true passes)
      by (Some q) is passes = record { end = q; played = is; goal = passes }

  pub leads-LeadsTo : (p : ℕ) (w : List ℕ) → LeadsTo (moved c) (IsGoal c) p w → leads_to_goal c p w ≡ true
  unfolding leads_to_goal
  leads-LeadsTo p w l = ap (λ o. option_map_or c.is_goal o false) l.played ∙ l.goal

  -- its turns are those of the coordinate
  pub LeadsTo-below : (p : ℕ) (w : List ℕ) → LeadsTo (moved c) (IsGoal c) p w → All (λ t. t < c.turns) w
  LeadsTo-below p [] l = All-nil (λ t. t < c.turns)
  LeadsTo-below p (t ∷ w) l =
      let parts = LeadsTo-parts (moved c) (IsGoal c) p t w l in
      All-cons (λ t. t < c.turns) t w (moved-turn c p t parts.0 parts.1).0 (LeadsTo-below parts.0 w parts.2)

  -- a word leads where its rest leads from where its first turn does
  leads_on : Option ℕ → List ℕ → Bool
  leads_on o w = option_map_or (λ q. leads_to_goal c q w) o false

  leads-turn : (p t : ℕ) (w : List ℕ) → leads_to_goal c p (t ∷ w) ≡ leads_on (moved c p t) w
  unfolding leads_to_goal leads_on play
  leads-turn p t w = by (moved c p t)
    where
      by : (o : Option ℕ) → option_map_or c.is_goal (option_and_then (λ q. play (moved c) q w) o) false
          ≡ option_map_or (λ q. option_map_or c.is_goal (play (moved c) q w) false) o false
      by None = refl
      by (Some q) = refl

  -- ---- the words of one length behind a word

  -- those that go on by a turn
  pub goal_words_by : ℕ → List ℕ → ℕ → ℕ → List (List ℕ)
  goal_words_by p word more t = option_map_or (λ q. goal_words_behind c q (word ++ t ∷ []) more) (moved c p t) []

  pub goal_words_by-next : (p : ℕ) (word : List ℕ) (more t q : ℕ) → moved c p t ≡ Some q
      → goal_words_by p word more t ≡ goal_words_behind c q (word ++ t ∷ []) more
  unfolding goal_words_by
  goal_words_by-next p word more t q leads = ap (λ o. option_map_or (λ q. goal_words_behind c q (word ++ t ∷ []) more) o []) leads

  -- from a goal the empty word leads to one
  pub goal_words-here : (p : ℕ) (word : List ℕ) → c.is_goal p ≡ true → goal_words_behind c p word 0 ≡ word ∷ []
  unfolding goal_words_behind words_of leads_to_goal play
  goal_words-here p word goal = ap (λ b. map (λ v. word ++ v) (cond b ([] ∷ []) [])) goal ∙ ap (λ w. w ∷ []) (append-nil word)

  -- one turn and then the others
  pub goal_words-turns : (p : ℕ) (word : List ℕ) (more : ℕ)
      → goal_words_behind c p word (suc more) ≡ flat_map (goal_words_by p word more) (numbers_from 0 c.turns)
  unfolding goal_words_behind goal_words_by words_of leads_on
  goal_words-turns p word more =
      let turns = numbers_from 0 c.turns in
      let ws = words_of turns more in
      let test = leads_to_goal c p in
      ap (map (λ v. word ++ v)) (filter-flat_map test (λ t. map (λ w. t ∷ w) ws) turns)
      ∙ map-flat_map (λ v. word ++ v) (λ t. filter test (map (λ w. t ∷ w) ws)) turns
      ∙ flat_map-same (λ t. map (λ v. word ++ v) (filter test (map (λ w. t ∷ w) ws)))
      (λ t. option_map_or (λ q. map (λ v. (word ++ t ∷ []) ++ v) (filter (leads_to_goal c q) ws)) (moved c p t) [])
      (λ t. behind t (moved c p t) (leads-turn p t) ws) turns
    where
      kept : (t : ℕ) (b : Bool) (w : List ℕ) (some others : List (List ℕ))
          → map (λ v. word ++ v) some ≡ map (λ v. (word ++ t ∷ []) ++ v) others
          → map (λ v. word ++ v) (cond b ((t ∷ w) ∷ some) some) ≡ map (λ v. (word ++ t ∷ []) ++ v) (cond b (w ∷ others) others)
      kept t true w some others e =
          ap (λ v. v ∷ map (λ v. word ++ v) some) (sym (append_assoc word (t ∷ []) w)) ∙ ap (λ vs. ((word ++ t ∷ []) ++ w) ∷ vs) e
      kept t false w some others e = e

      behind : (t : ℕ) (o : Option ℕ) → ((w : List ℕ) → leads_to_goal c p (t ∷ w) ≡ leads_on o w) → (ws : List (List ℕ))
          → map (λ v. word ++ v) (filter (leads_to_goal c p) (map (λ w. t ∷ w) ws))
          ≡ option_map_or (λ q. map (λ v. (word ++ t ∷ []) ++ v) (filter (leads_to_goal c q) ws)) o []
      behind t None h [] = refl
      behind t (Some q) h [] = refl
      behind t None h (w ∷ ws) =
          let rest = filter (leads_to_goal c p) (map (λ w. t ∷ w) ws) in
          ap (λ b. map (λ v. word ++ v) (cond b ((t ∷ w) ∷ rest) rest)) (h w) ∙ behind t None h ws
      behind t (Some q) h (w ∷ ws) =
          let rest = filter (leads_to_goal c p) (map (λ w. t ∷ w) ws) in
          ap (λ b. map (λ v. word ++ v) (cond b ((t ∷ w) ∷ rest) rest)) (h w)
          ∙ kept t (leads_to_goal c q w) w rest (filter (leads_to_goal c q) ws) (behind t (Some q) h ws)

  -- none of fewer turns than the distance
  pub goal_words-near : (p d : ℕ) (word : List ℕ) (more : ℕ) → IsDistance (moved c) (IsGoal c) p d → more < d
      → goal_words_behind c p word more ≡ []
  unfolding goal_words_behind
  goal_words-near p d word more is less =
      let turns = numbers_from 0 c.turns in
      let ws = words_of turns more in
      ap (map (λ v. word ++ v))
      (filter-none (leads_to_goal c p) ws
      (All-weaker (Contains ws) (λ w. leads_to_goal c p w ≡ false)
      (λ w there. fails (leads_to_goal c p w) (λ leads. omega (arith, is.least w (LeadsTo-test p w leads), (IsListed-listed turns more w there).size)))
      ws (All-contains_itself ws)))
    where
      fails : (b : Bool) → (b ≡ true → ⊥) → b ≡ false
      fails true h = absurd (h refl)
      fails false h = refl

  -- nor by a turn that leads no nearer
  pub goal_words_by-far : (p : ℕ) (word : List ℕ) (more t : ℕ)
      → ((q : ℕ) → moved c p t ≡ Some q → (d : ℕ) × IsDistance (moved c) (IsGoal c) q d × (more < d))
      → goal_words_by p word more t ≡ []
  unfolding goal_words_by
  goal_words_by-far p word more t far = by (moved c p t) far
    where
      by : (o : Option ℕ) → ((q : ℕ) → o ≡ Some q → (d : ℕ) × IsDistance (moved c) (IsGoal c) q d × (more < d))
          → option_map_or (λ q. goal_words_behind c q (word ++ t ∷ []) more) o [] ≡ []
      by None h = refl
      by (Some q) h = let at = h q refl in goal_words-near q at.0 (word ++ t ∷ []) more at.1 at.2

  -- ---- those of at most so many turns, by their lengths

  behind_none : (ws : List (List ℕ)) → ws ≡ map (λ v. [] ++ v) ws
  behind_none [] = refl
  behind_none (w ∷ ws) = ap (λ vs. w ∷ vs) (behind_none ws)

  pub words_to_goal-lengths : (p most : ℕ)
      → words_to_goal c p most ≡ flat_map (goal_words_behind c p []) (numbers_from 0 (most + 1))
  unfolding words_to_goal words_within goal_words_behind
  words_to_goal-lengths p most =
      let turns = numbers_from 0 c.turns in
      let test = leads_to_goal c p in
      filter-flat_map test (words_of turns) (numbers_from 0 (most + 1))
      ∙ flat_map-same (λ n. filter test (words_of turns n)) (λ n. map (λ v. [] ++ v) (filter test (words_of turns n)))
      (λ n. behind_none (filter test (words_of turns n))) (numbers_from 0 (most + 1))

  -- ---- at the positions of a table

  module _ (table : Distances) (m : Measures c table) where
    -- a position that is no turn away from a goal is one, and its word is the only one
    pub goal_words-found : (found : List (List ℕ)) (wanted p left : ℕ) (word : List ℕ) → p < c.count
        → get_or table.distances p 0 ≤ left → left ≡ 0 → length found < wanted
        → found ++ word ∷ [] ≡ take wanted (found ++ goal_words_behind c p word left)
    goal_words-found found wanted p left word lt near none few =
        let P : ℕ → Type 0 = λ d. IsDistance (moved c) (IsGoal c) p d in
        let zero_there : get_or table.distances p 0 ≡ 0 = omega arith in
        let goal = IsGoal-distance (moved c) (IsGoal c) p (Bool-set (c.is_goal p) true) (subst P zero_there (m.exact p lt)) in
        grind (arith, goal_words-here, goal, take_all, length-append)

    -- lengths below the distance have no words
    pub goal_words-skipped : (p most : ℕ) → p < c.count
        → flat_map (goal_words_behind c p []) (numbers_from (get_or table.distances p 0) (most + 1 - get_or table.distances p 0)) ≡ words_to_goal c p most
    goal_words-skipped p most lt =
        let all : most + 1 ≡ most + 1 - 0 = omega arith in
        let d = get_or table.distances p 0 in
        sym
        (words_to_goal-lengths p most ∙ ap (λ n. flat_map (goal_words_behind c p []) (numbers_from 0 n)) all
        ∙ lengths_from (goal_words_behind c p []) d (most + 1) (λ n less. goal_words-near p d [] n (m.exact p lt) less))

    -- nor has a turn that leads to no position near enough
    pub goal_words_by-none : (p : ℕ) (word : List ℕ) (left t : ℕ) → p < c.count → 0 < left
        → ((q : ℕ) → moved c p t ≡ Some q → left ≤ get_or table.distances q 0) → goal_words_by p word (left - 1) t ≡ []
    goal_words_by-none p word left t lt some far =
        goal_words_by-far p word (left - 1) t (λ q leads.
        (get_or table.distances q 0, m.exact q (moved-below c m.stays_below p t q lt leads), omega (arith, far q leads)))
