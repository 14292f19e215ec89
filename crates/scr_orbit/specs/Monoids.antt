-- States that tell turns, too: a turn is told by what it makes of the solved state. So one operation says what a turn
-- makes of a state, and what two turns come to, one and then another. In the words of algebra the states are a monoid.
-- Here are also tables that say which turn each letter of a notation is, and turns as powers of a few. No puzzle stands
-- here, and no orbit: a state may be of several.
use Rattle.std.specs.Prelude.{◌≡◌, ℕ, zero, suc, ◌-◌, ◌<◌, List, map, slice_get, Option, Some, option_and_then}
use Rattle.std.specs.Option.{option_map}
use Rattle.std.specs.List.{flat_map}
use Rattle.scr_combinatorics.specs.Lists.{numbers_from}
use Rattle.scr_combinatorics.specs.Play.{play}
use Rattle.scr_combinatorics.specs.PowerLetters.{Power}
use Rattle.scr_combinatorics.specs.Reach.{Puzzle}

-- What a turn makes of a state, and the solved state, which tells the turn that moves nothing.
pub record Monoid (S : Type 0) : Type 0 where
  pub turned : S → S → S
  pub solved : S

-- Valid states stay so when they are turned by valid ones; turning by two at once is turning by one and then by the
-- other; and the solved state changes nothing.
pub record IsMonoid {S : Type 0} (m : Monoid S) (IsValid : S → Type 0) : Type 0 where
  pub kept : (s r : S) → IsValid s → IsValid r → IsValid (m.turned s r)
  pub solved : IsValid m.solved
  pub grouped : (s r q : S) → IsValid s → IsValid r → IsValid q → m.turned (m.turned s r) q ≡ m.turned s (m.turned r q)
  pub solved_first : (s : S) → IsValid s → m.turned m.solved s ≡ s
  pub solved_last : (s : S) → IsValid s → m.turned s m.solved ≡ s

-- One of two valid states is the inverse of the other: the solved state is what each makes of the other, and no other
-- valid state is so either way.
pub record IsInverse {S : Type 0} (m : Monoid S) (IsValid : S → Type 0) (s r : S) : Type 0 where
  pub valid : IsValid r
  pub after : m.turned s r ≡ m.solved
  pub before : m.turned r s ≡ m.solved
  pub only_after : (q : S) → IsValid q → m.turned s q ≡ m.solved → q ≡ r
  pub only_before : (q : S) → IsValid q → m.turned q s ≡ m.solved → q ≡ r

-- ---- tables

-- What a letter makes of a state, by a table of the turns that letters are; a letter that isn't there makes nothing.
abbrev pub after_by : {S T : Type 0} → Monoid S → (T → Option S) → S → T → Option S
after_by m table s t = option_map (m.turned s) (table t)

-- The puzzle of such a table.
abbrev pub table_puzzle : {S T : Type 0} → Monoid S → (T → Option S) → (T → ℕ) → Puzzle S
table_puzzle {T = T} m table counted =
    record { Turn = T; after = after_by m table; IsSolved = λ s. s ≡ m.solved; counted = counted }

-- ---- turns as powers of a few of them, as a half turn of a face is its quarter turn twice

-- A turn, so many times.
unfoldable pub power : {S : Type 0} → Monoid S → S → ℕ → S
power m r zero = m.solved
power m r (suc n) = m.turned r (power m r n)

-- The least number of times, from 1 on, that a turn is done to move nothing.
pub record IsOrder {S : Type 0} (m : Monoid S) (r : S) (n : ℕ) : Type 0 where
  pub some : 0 < n
  pub whole : power m r n ≡ m.solved
  pub least : (k : ℕ) → 0 < k → k < n → power m r k ≡ m.solved → ⊥

-- A word is done so many times, and no fewer, to move nothing.
pub record IsWordOrder {S T : Type 0} (m : Monoid S) (table : T → Option S) (w : List T) (n : ℕ) : Type 0 where
  pub turn : S
  pub comes_to : play (after_by m table) m.solved w ≡ Some turn
  pub order : IsOrder m turn n

-- Which turn a power of one of these generators is.
unfoldable pub power_of : {S : Type 0} → Monoid S → List S → Power → Option S
power_of m generators p = option_map (λ r. power m r p.exponent) (slice_get generators p.generator)

-- The table of letters that are powers of generators.
abbrev pub power_table : {S T : Type 0} → Monoid S → List S → (T → Option Power) → T → Option S
power_table m generators power_at t = option_and_then (power_of m generators) (power_at t)

-- All turns, in the order of their numbers: of each generator the powers below its order.
unfoldable pub all_powers : {S : Type 0} → Monoid S → ℕ → List S → List S
all_powers m order generators = flat_map (λ r. map (power m r) (numbers_from 1 (order - 1))) generators
