-- How far a list of numbers is read, and which attempt of a stream is the first that hits a state.
use Rattle.std.specs.Prelude.{◌<◌, ◌*◌, ◌+◌, ◌≡◌, ℕ, suc, if◌then◌else◌, Option, Some, None, is_some, List, [], ◌∷◌}
use Rattle.scr_draw.specs.Attempt.{attempt_value}

-- how many numbers of a list are read until one hits: all of them where each misses
unfoldable pub numbers_read : {S : Type 0} → (ℕ → Option S) → List ℕ → ℕ
numbers_read hits [] = 0
numbers_read hits (v ∷ vs) = if is_some (hits v) then 1 else suc (numbers_read hits vs)

-- Attempt `tried` of those from a place on is the first that hits a state, and it hits s.
pub record IsFirstHit {S : Type 0} (hits : ℕ → Option S) (word : ℕ → ℕ) (place all : ℕ) (s : S) (tried : ℕ) : Type 0 where
  pub below : tried < all
  pub here : hits (attempt_value word (place + 3 * tried)) ≡ Some s
  pub missed : (earlier : ℕ) → earlier < tried → hits (attempt_value word (place + 3 * earlier)) ≡ None
