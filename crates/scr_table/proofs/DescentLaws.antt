-- Walking down a table.
use Rattle.std.proofs.Common.{◌≡◌, ℕ, suc, ◌+◌, ◌<◌, ◌≤◌, true, List, [], ◌∷◌, ◌++◌, length, get_or, Some, sym, ◌∙◌, subst, add-one, append_assoc, length-append, arith}
use Rattle.std.proofs.Math.Bool.{Bool-set}
use Rattle.std.proofs.Math.Logic.{∥∥₁_elim}
use Rattle.std.proofs.lemmas.List.{append-nil}
use Rattle.std.proofs.lemmas.Grind.{same_number_lists}
use Rattle.scr_positions.specs.Coordinates.{Coordinate, moved, IsGoal}
use Rattle.scr_combinatorics.specs.FirstWord.{IsFirstWord, IsDistance, LowersFirst}
use Rattle.scr_combinatorics.proofs.FirstWordLaws.{IsDistance-unique, IsDistance-lowers, IsGoal-distance, IsFirstWord-goal, IsFirstWord-cons}
use Rattle.scr_table.specs.declared.table.TheConstants.{GREATEST_BOUND}
use Rattle.scr_table.specs.Distances.{Distances, Measures}
use Rattle.scr_table.proofs.StepLaws.{moved-turn, moved-below}

-- A word that was walked down from a position: whatever first word goes on from its end, the word followed by it is the
-- first word from the position.
pub record IsDescending (c : Coordinate) (table : Distances) (p : ℕ) (word : List ℕ) (at left : ℕ) : Type 0 where
  pub position : at < c.count
  pub distance : get_or table.distances at 0 ≡ left
  pub room : length word + left ≤ GREATEST_BOUND
  pub continues : (rest : List ℕ) → IsFirstWord (moved c) (IsGoal c) at rest
      → IsFirstWord (moved c) (IsGoal c) p (word ++ rest)

module _ (c : Coordinate) (table : Distances) (m : Measures c table) where
  -- what stands at a position is its distance
  pub distance_at : (p d : ℕ) → p < c.count → get_or table.distances p 0 ≡ d → IsDistance (moved c) (IsGoal c) p d
  distance_at p d lt e = let P : ℕ → Type 0 = λ x. IsDistance (moved c) (IsGoal c) p x in subst P e (m.exact p lt)

  -- one position, from which the turns below one lead to no position of the wanted distance
  module _ (p lower : ℕ) (lt : p < c.count) where
    abbrev pub NoneLower : ℕ → Type 0
    NoneLower turn = (t q : ℕ) → t < turn → moved c p t ≡ Some q → get_or table.distances q 0 ≡ lower → ⊥

    -- the next turn, where it leads to one, is the first that lowers the distance
    pub LowersFirst-measured : (turn next : ℕ) → NoneLower turn → moved c p turn ≡ Some next
        → get_or table.distances next 0 ≡ lower → LowersFirst (moved c) (IsGoal c) p next turn lower
    LowersFirst-measured turn next none leads e = record {
      leads = leads;
      lower = distance_at next lower (moved-below c m.stays_below p turn next lt leads) e;
      first = λ u q less moves d. none u q less moves
          (IsDistance-unique (moved c) (IsGoal c) q _ lower (m.exact q (moved-below c m.stays_below p u q lt moves)) d);
    }

    -- and not all turns lead to none
    pub some_turn-lowers : get_or table.distances p 0 ≡ lower + 1 → NoneLower c.turns → ⊥
    some_turn-lowers e none =
        ∥∥₁_elim (IsDistance-lowers (moved c) (IsGoal c) p lower (distance_at p (suc lower) lt (e ∙ add-one lower))) (hlevel)
        (λ (t, r, moves, d).
        none t r (moved-turn c p t r moves).0 moves
        (IsDistance-unique (moved c) (IsGoal c) r _ lower (m.exact r (moved-below c m.stays_below p t r lt moves)) d))

  module _ (p : ℕ) (word : List ℕ) (at left : ℕ) (h : IsDescending c table p word at left) where
    -- one turn down
    pub IsDescending-more : (turn next lower : ℕ) → left ≡ lower + 1 → next < c.count
        → get_or table.distances next 0 ≡ lower → LowersFirst (moved c) (IsGoal c) at next turn lower
        → IsDescending c table p (word ++ turn ∷ []) next lower
    IsDescending-more turn next lower e lt there l = record {
      position = lt;
      distance = there;
      room = simp length-append (omega (arith, h.room));
      continues = λ rest f.
          let P : List ℕ → Type 0 = λ w. IsFirstWord (moved c) (IsGoal c) p w in
          subst P (sym (append_assoc word (turn ∷ []) rest))
          (h.continues (turn ∷ rest)
          (IsFirstWord-cons (moved c) (IsGoal c) at next turn lower rest
          (distance_at at (suc lower) h.position (h.distance ∙ e ∙ add-one lower)) l f));
    }

    -- the end
    pub IsFirstWord-descended : left ≡ 0 → IsFirstWord (moved c) (IsGoal c) p word
    IsFirstWord-descended e =
        let P : List ℕ → Type 0 = λ w. IsFirstWord (moved c) (IsGoal c) p w in
        let goal : IsGoal c at = IsGoal-distance (moved c) (IsGoal c) at (Bool-set (c.is_goal at) true) (distance_at at 0 h.position (h.distance ∙ e)) in
        subst P (append-nil word) (h.continues [] (IsFirstWord-goal (moved c) (IsGoal c) at goal))

-- a coordinate has one table of a name and a bound
pub Measures-unique : (c : Coordinate) (some other : Distances) → Measures c some → Measures c other
    → some.name ≡ other.name → some.bound ≡ other.bound → some ≡ other
Measures-unique c some other a b name bound =
    let long : length some.distances ≡ length other.distances = a.positions ∙ sym b.positions in
    let each : (k : ℕ) → k < length some.distances → get_or some.distances k 0 ≡ get_or other.distances k 0 = λ k lt.
    IsDistance-unique (moved c) (IsGoal c) k _ _ (a.exact k (omega (arith, a.positions))) (b.exact k (omega (arith, a.positions))) in
    let distances = same_number_lists some.distances other.distances long each in
    λ i. record { name = name i; bound = bound i; distances = distances i }
