-- What a seat has claimed, the rule of the claim word, and what its steps tell.
use Rattle.std.specs.Prelude.{◌≡◌, ℕ, zero, suc, ◌+◌, ◌-◌, ◌≤◌, cond, nat_le, List, [], ◌∷◌, ◌++◌, length, slice_index}
use mathlib.Core.Option.{some}
use lib.ListN.{get_elem?}
use Rattle.atomic_table.specs.Table.{State, Me, Step}
use Rattle.scr_workers.specs.declared.rule.Claims.{Claims}

abbrev pub claims : ℕ → List ℕ → Claims
claims weight list = record { weight = weight; list = list }

-- what h gives of each number of a list, added up
abbrev pub weigh : (ℕ → ℕ) → List ℕ → ℕ
weigh h [] = 0
weigh h (x ∷ xs) = h x + weigh h xs

-- what h gives of each number below n, added up
abbrev pub weigh_below : (ℕ → ℕ) → ℕ → ℕ
weigh_below h zero = 0
weigh_below h (suc n) = weigh_below h n + h n

-- one for each number that is m or more
abbrev pub from : ℕ → ℕ → ℕ
from m x = cond (nat_le m x) 1 0

-- what f gives of each view, added up
abbrev pub over_views : (Claims → ℕ) → List Claims → ℕ
over_views f [] = 0
over_views f (view ∷ views) = f view + over_views f views

-- how many numbers of 2^32 and more a view claimed
abbrev pub late : Claims → ℕ
late view = weigh (from 4294967296) view.list

-- The rule of the claim word. The lists of all views together have each number below the word exactly once, and no
-- other: they give the same as these numbers, whatever is added up over them. The weights add up to 64; no view has
-- more numbers of 2^32 and more than its weight, and one without weight has none. So the word is at most 2^32 + 64,
-- and never wraps.
pub record IsKept (words : List ℕ) (views : List Claims) : Type 0 where
  pub one_word : length words ≡ 1
  pub once : (h : ℕ → ℕ) → over_views (λ view. weigh h view.list) views ≡ weigh_below h (slice_index words 0)
  pub weights : over_views (λ view. view.weight) views ≡ 64
  pub late_most : (seat : ℕ) (view : Claims) → get_elem? views seat ≡ some view → late view ≤ view.weight
  pub idle : (seat : ℕ) (view : Claims) → get_elem? views seat ≡ some view → view.weight ≡ 0 → view.list ≡ []

abbrev pub Holds : State (Unit {0}) Claims → Type 0
Holds state = IsKept state.words state.views

-- A claim: the old word goes to the end of the seat's list, which had no more numbers than the word.
abbrev pub HasClaimed : Step (Unit {0}) → Me (Unit {0}) Claims → ℕ → Me (Unit {0}) Claims → Type 0
HasClaimed step before word after =
    (after ≡ (claims before.0.weight (before.0.list ++ word ∷ []), before.1)) × (length before.0.list ≤ word)

-- A look: nothing changes, and the seat's list has each number below the word exactly once.
abbrev pub HasLooked : Step (Unit {0}) → Me (Unit {0}) Claims → ℕ → Me (Unit {0}) Claims → Type 0
HasLooked step before word after = (after ≡ before) × ((h : ℕ → ℕ) → weigh h before.0.list ≡ weigh_below h word)

-- A cut: one unit of weight goes to a new seat.
abbrev pub rest_of : Claims → Claims
rest_of view = claims (view.weight - 1) view.list

abbrev pub part_of : Claims → Claims
part_of view = claims 1 []

-- A join: one seat gets both weights and both lists, and the other has none left.
abbrev pub joined : Claims → Claims → Claims
joined view other = claims (view.weight + other.weight) (view.list ++ other.list)

abbrev pub spent : Claims
spent = claims 0 []
